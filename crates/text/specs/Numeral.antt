-- Numbers written in digits, read and written: decimal numbers (01: 1 to 10 digits, at most 4,294,967,295, no leading zero) and words of
-- small letters, which are read as numbers too, to be told apart by one comparison. Assumes nothing.
use Rattle.std.specs.Prelude.{ℕ, zero, suc, ◌+◌, ◌*◌, ◌-◌, ◌/◌, ◌%◌, true, false, List, [], ◌∷◌, ltb, eqb}
use Prim.Native.Char.{code}
use Prim.Native.String.{String, [] as []ˢ, ◌∷◌ as ◌∷ˢ◌}
use Rattle.text.specs.Class.{digit, letter, choose, class_of}
use Rattle.text.specs.Rest.{Rest, lost, left, must}

-- a way of writing numbers: the class of its digits, the byte of the digit 0, the base, the largest number
pub record System : Type 0 where
  pub class : ℕ
  pub zero_byte : ℕ
  pub base : ℕ
  pub limit : ℕ

abbrev pub decimal : System
decimal = record { class = digit; zero_byte = 48; base = 10; limit = 4294967295 }

-- a word of up to six small letters: a is 1, z is 26
abbrev pub letters : System
letters = record { class = letter; zero_byte = 96; base = 32; limit = 1073741823 }

-- a number and what is left after it
pub data Read : Type 0 where
  bad : Read
  got : ℕ → List ℕ → Read

module _ (S : System) where
  -- the digit that a byte is, and the base for a byte that is no digit
  unfoldable pub digit_of : ℕ → ℕ
  digit_of b = choose (eqb (class_of b) S.class) (b - S.zero_byte) S.base

  -- reads on, with the number so far, up to the first byte that is no digit
  unfoldable pub digits : ℕ → List ℕ → Read
  digits n [] = got n []
  digits n (b ∷ bs) =
      elim (eqb (digit_of b) S.base) [
        | true ↦ got n (b ∷ bs)
        | false ↦ elim (ltb S.limit (n * S.base + digit_of b)) [ true ↦ bad | false ↦ digits (n * S.base + digit_of b) bs ]
      ]

  -- a number has a digit; one that begins with the digit 0 is 0
  unfoldable pub numeral : List ℕ → Read
  numeral [] = bad
  numeral (b ∷ bs) =
      elim (eqb (digit_of b) 0) [
        | true ↦ got 0 bs
        | false ↦ elim (eqb (digit_of b) S.base) [ true ↦ bad | false ↦ digits 0 (b ∷ bs) ]
      ]

  -- the digits of a number, in front of a rest; the first argument bounds how many
  unfoldable pub written : ℕ → ℕ → List ℕ → List ℕ
  written zero n r = r
  written (suc f) n r =
      elim (ltb n S.base) [
        | true ↦ (S.zero_byte + n) ∷ r
        | false ↦ written f (n / S.base) ((S.zero_byte + n % S.base) ∷ r)
      ]

  unfoldable pub write : ℕ → List ℕ → List ℕ
  write n = written (suc n) n

unfoldable pub number_of : Read → ℕ
number_of bad = 0
number_of (got n r) = n

unfoldable pub rest_of : Read → Rest
rest_of bad = lost
rest_of (got n r) = left r

unfoldable pub read : System → Rest → Read
read S lost = bad
read S (left bs) = numeral S bs

-- the number that stands next (0 where none does), and what is left after it
unfoldable pub value : System → Rest → ℕ
value S o = number_of (read S o)

unfoldable pub past : System → Rest → Rest
past S o = rest_of (read S o)

-- the number of a word
unfoldable pub spelled : ℕ → String → ℕ
spelled n []ˢ = n
spelled n (c ∷ˢ s) = spelled (n * 32 + (code c - 96)) s

abbrev pub word_of : String → ℕ
word_of s = spelled 0 s

-- past the given word
unfoldable pub keyword : ℕ → Rest → Rest
keyword w o = must (eqb (value letters o) w) (past letters o)

-- opens every definition of this module
unfoldable pub opens : Unit {0}
unfolding digit_of digits numeral written write number_of rest_of read value past spelled keyword
opens = tt
