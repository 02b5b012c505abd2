-- The ways of writing numbers that the code can read. Assumes nothing.
use Rattle.std.specs.Prelude.{ℕ, ◌≤◌}
use Rattle.text.specs.Numeral.{System}
use Rattle.text.specs.Positional.{Positional}

abbrev pub system : ℕ → ℕ → ℕ → ℕ → System
system class zero_byte base limit = record { class = class; zero_byte = zero_byte; base = base; limit = limit }

-- a system that the code can read: one digit is a number, and a number is a word of 32 bits
pub record Valid (S : System) : Type 0 where
  pub positional : Positional S
  pub one_digit : S.base ≤ S.limit
  pub base_fits : S.base ≤ 256
  pub limit_fits : S.limit ≤ 4294967295
