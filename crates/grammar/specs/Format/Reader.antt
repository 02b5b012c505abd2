-- Readers of a book's text: what was read, and what is left. A text that is misspelt is lost and stays lost, so that a reader has no error branch;
-- each line of a `do` below is one call of the code. Assumes nothing.
use Rattle.std.specs.Prelude.{ℕ, zero, suc, true, false, List, [], ◌∷◌}
use Rattle.text.specs.Class.{open-bracket, close-bracket, space, line-feed}
use Rattle.text.specs.Rest.{Rest, found, mark, size}
use Rattle.text.specs.Numeral.{decimal, value, past, keyword}

pub data Parsed (A : Type 0) : Type 0 where
  parsed : A → Rest → Parsed A

unfoldable pub result : {A : Type 0} → Parsed A → A
result (parsed x o) = x

unfoldable pub remaining : {A : Type 0} → Parsed A → Rest
remaining (parsed x o) = o

abbrev pub Reader : Type 0 → Type 0
Reader A = Rest → Parsed A

abbrev pub pure : {A : Type 0} → A → Reader A
pure x = λ o. parsed x o

abbrev pub ◌>>=◌ : {A B : Type 0} → Reader A → (A → Reader B) → Reader B
◌>>=◌ p f = λ o. f (result (p o)) (remaining (p o))

abbrev pub ◌>>◌ : {A : Type 0} → (Rest → Rest) → Reader A → Reader A
◌>>◌ f p = λ o. p (f o)

abbrev pub decimal_number : Reader ℕ
decimal_number o = parsed (value decimal o) (past decimal o)

-- a line's head `(inh ` and its end `)` with the line feed
unfoldable pub opening : ℕ → Rest → Rest
opening word o = mark space (keyword word (mark open-bracket o))

unfoldable pub closing : Rest → Rest
closing o = mark line-feed (mark close-bracket o)

-- a space and the letter of a name
unfoldable pub naming : ℕ → Rest → Rest
naming letter o = keyword letter (mark space o)

-- elements as long as their head is found; the state says what may come next, and fuel is the size of what is left
module _ {A S : Type 0} (head : Rest → Rest) (one : S → Reader A) (next : S → A → S) where
  unfoldable pub many : ℕ → S → Reader (List A)
  many zero s o = parsed [] o
  many (suc fuel) s o =
      elim (found (head o)) [
        | true ↦ (do x ← one s; xs ← many fuel (next s x); pure (x ∷ xs)) (head o)
        | false ↦ parsed [] o
      ]

  unfoldable pub section : S → Reader (List A)
  section s o = many (size o) s o

-- opens every definition of this module
unfoldable pub opens : Unit {0}
unfolding result remaining opening closing naming many section
opens = tt
