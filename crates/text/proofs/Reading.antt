-- The two systems of digits are such as the code can read.
-- Assumes nothing.
use Rattle.std.proofs.Common.{arith}
use Rattle.text.specs.Numeral.{decimal, letters}
use Rattle.text.proofs.Positional.{decimal-positional, letters-positional}
use Rattle.text.specs.Valid.{Valid}

pub decimal-valid : Valid decimal
decimal-valid = record { positional = decimal-positional; one_digit = omega arith; base_fits = omega arith; limit_fits = omega arith }

pub letters-valid : Valid letters
letters-valid = record { positional = letters-positional; one_digit = omega arith; base_fits = omega arith; limit_fits = omega arith }
