-- What the readers in code ask of their callers and what they answer, by name.
-- Assumes nothing.
use Rattle.std.specs.Prelude.{ℕ, ◌<◌, ◌≤◌, ◌≡◌, Option, Some, None, List, length}
use Rattle.text.specs.declared.notation.Notation.{Notation}
use Rattle.text.specs.Valid.{system}
use Rattle.text.specs.Rest.{rest}
use Rattle.text.specs.Numeral.{System, digit_of, Read, number_of, rest_of, value, past}

abbrev pub system_of : Notation → System
system_of s = system s.class s.zero s.base s.limit

-- the digit that a byte is, if it is one
abbrev pub Digit : System → ℕ → Option ℕ → Type 0
Digit S b None = digit_of S b ≡ S.base
Digit S b (Some d) = (d ≡ digit_of S b) × (d < S.base)

-- the number that stands at a position, and the position after it
pub record Reads (S : System) (text : List ℕ) (at number next : ℕ) : Type 0 where
  pub value_is : number ≡ value S (rest text at)
  pub rest_is : rest text next ≡ past S (rest text at)

-- amid the digits of a number: the number so far, and the position of the next byte
pub record Amid (S : System) (text : List ℕ) (number at : ℕ) : Type 0 where
  pub within : at ≤ length text
  pub small : number ≤ S.limit

-- what was read, as a number and the position after it
pub record Answers (what : Read) (text : List ℕ) (number next : ℕ) : Type 0 where
  pub number_is : number ≡ number_of what
  pub next-is : rest text next ≡ rest_of what
