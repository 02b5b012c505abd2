-- Numbers and words read and written, computed.
-- Assumes nothing.
use Rattle.std.specs.Prelude.{ℕ, ◌≡◌, refl, true, List, [], ◌∷◌}
use Prim.Native.Char.{code}
use Prim.Native.String.{String, [] as []ˢ, ◌∷◌ as ◌∷ˢ◌}
use Rattle.text.specs.Class.{opens as opens₁}
use Rattle.text.specs.Rest.{lost, left, opens as opens₂}
use Rattle.text.specs.Numeral.{decimal, letters, bad, got, numeral, write, word_of, keyword, opens as opens₃}
use Rattle.text.specs.Positional.{no_digit}

bytes : String → List ℕ
bytes []ˢ = []
bytes (c ∷ˢ s) = code c ∷ bytes s

largest : numeral decimal (bytes "4294967295)") ≡ got 4294967295 (bytes ")")
unfolding opens₁ opens₃ bytes
largest = refl

too_large : numeral decimal (bytes "4294967296)") ≡ bad
unfolding opens₁ opens₃ bytes
too_large = refl

eleven-digits : numeral decimal (bytes "10000000000") ≡ bad
unfolding opens₁ opens₃ bytes
eleven-digits = refl

leading-zero : numeral decimal (bytes "01") ≡ got 0 (bytes "1")
unfolding opens₁ opens₃ bytes
leading-zero = refl

no_number : numeral decimal (bytes "x") ≡ bad
unfolding opens₁ opens₃ bytes
no_number = refl

-- a number is written in front of any rest, and so is a word
number-in-front : (r : List ℕ) → write decimal 4294967295 r ≡ 52 ∷ 50 ∷ 57 ∷ 52 ∷ 57 ∷ 54 ∷ 55 ∷ 50 ∷ 57 ∷ 53 ∷ r
unfolding opens₃
number-in-front r = refl

word-in-front : (r : List ℕ) → write letters (word_of "inhdef") r ≡ 105 ∷ 110 ∷ 104 ∷ 100 ∷ 101 ∷ 102 ∷ r
unfolding opens₃
word-in-front r = refl

word_read : numeral letters (bytes "inh i0") ≡ got (word_of "inh") (bytes " i0")
unfolding opens₁ opens₃ bytes
word_read = refl

word-too-long : numeral letters (bytes "inhdefs") ≡ bad
unfolding opens₁ opens₃ bytes
word-too-long = refl

keyword-read : (r : List ℕ) → keyword (word_of "kernel") (left (write letters (word_of "kernel") (32 ∷ r))) ≡ left (32 ∷ r)
unfolding opens₁ opens₂ opens₃
keyword-read r = refl

keyword-other : (r : List ℕ) → keyword (word_of "inh") (left (write letters (word_of "inhdef") (32 ∷ r))) ≡ lost
unfolding opens₁ opens₂ opens₃
keyword-other r = refl

-- a space ends a number
space-ends : (r : List ℕ) → no_digit decimal (32 ∷ r) ≡ true
unfolding opens₁ opens₃ no_digit
space-ends r = refl
