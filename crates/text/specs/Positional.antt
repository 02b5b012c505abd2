-- What the laws of numbers ask of a system of digits; that writing and reading are inverse stands in proofs/Positional.antt.
-- Assumes nothing.
use Prim.Native.Nat.{ℕ, ◌+◌, ◌≤◌, ◌<◌}
use Rattle.std.specs.Prelude.{◌≡◌, Bool}
use Rattle.std.proofs.Math.Bool.{true}
use mathlib.Core.List.{List, [], ◌∷◌}
use Rattle.std.proofs.Math.Dec.{eqb}
use Rattle.text.specs.Class.{class_of}
use Rattle.text.specs.Numeral.{System, digit_of}

-- what the laws need of a system: a base, and that each byte of its class is a digit of that base
pub record Positional (S : System) : Type 0 where
  pub base_is : 1 < S.base
  pub from_zero : (b : ℕ) → class_of b ≡ S.class → S.zero_byte ≤ b
  pub to_base : (b : ℕ) → class_of b ≡ S.class → b < S.zero_byte + S.base

-- a text that begins with no digit
unfoldable pub no_digit : System → List ℕ → Bool
no_digit S [] = true
no_digit S (b ∷ bs) = eqb (digit_of S b) S.base
