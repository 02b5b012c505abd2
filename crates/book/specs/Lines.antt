-- The lines of the sections inh, syn and rule: how much a line leaves, and that the code's steps, one after another, read and keep a whole line.
-- Assumes nothing.
use Rattle.std.specs.Prelude.{ℕ, suc, ◌≤◌, ◌≡◌, refl, List, [], ◌∷◌, length, get_or}
use Rattle.std.proofs.Common.{◌∙◌, arith}
use Rattle.text.specs.Class.{space}
use Rattle.text.specs.Rest.{rest, mark}
use Rattle.text.proofs.RestLaws.{found-mark}
use Rattle.text.specs.Numeral.{keyword}
use Rattle.grammar.specs.Limits.{MAX_RIGHT}
use Rattle.grammar.specs.Data.Symbol.{Symbol, Rule}
use Rattle.grammar.specs.Format.Reader.{result, remaining, opening, closing}
use Rattle.grammar.specs.Format.ReaderLaws.{shrinking, opening-less}
use Rattle.grammar.specs.Format.LineLaws.{most-symbols}
use Rattle.grammar.specs.Format.Parse.{symbol, symbols, owner_line, rule_line}
use Rattle.book.specs.Layout.{write_at, put_line, store_lines, symbol_code, codes, rule_words}
use Rattle.book.specs.LayoutLaws.{put-out}
use Rattle.book.specs.Numbered.{numbered}
use Rattle.book.specs.Sections.{Gives, Shrinks, Fills, Puts}

-- a right symbol
unfoldable pub symbol_words : Symbol → List ℕ
symbol_words X = symbol_code X ∷ []

-- the words of a rule
abbrev pub RULE_WORDS : ℕ
RULE_WORDS = 10

-- How much a line leaves

pub owner-shrinks : (word letter : ℕ) → Shrinks (opening word) (owner_line letter)
unfolding owner_line remaining
owner-shrinks word letter = record { head_less = opening-less word; one_less = λ K o. search shrinking depth 20 }

pub symbols-shrink : Shrinks (mark space) (λ (s : Unit {0}). symbol)
unfolding symbol remaining
symbols-shrink = record { head_less = found-mark space; one_less = λ s o. search shrinking depth 20 }

pub rule-shrinks : (word : ℕ) → Shrinks (opening word) rule_line
unfolding rule_line remaining
rule-shrinks word = record { head_less = opening-less word; one_less = λ K o. search (shrinking, most-symbols) depth 20 }

-- The steps of an owner's line: its letter, its number and the owner, the end

pub owner_of : {text : List ℕ} {A p₂ p₃ : ℕ} (at letter k p₁ : ℕ) → rest text p₁ ≡ keyword letter (rest text at)
    → Gives (numbered k (rest text p₁)) text A p₂ → rest text p₃ ≡ closing (rest text p₂) → Gives (owner_line letter k (rest text at)) text A p₃
unfolding numbered owner_line result remaining
owner_of at letter k p₁ kind read end = record { result_is = cc; remaining_is = cc }

-- The words of a rule's line, and its steps

store-full : {A : Type 0} (words : A → List ℕ) (room k : ℕ) (xs : List A) (out : List ℕ) → room ≤ k → store_lines words room k xs out ≡ out
unfolding store_lines
store-full words room k [] out h = refl
store-full words room k (x ∷ xs) out h = store-full words room (suc k) xs _ (omega arith) ∙ put-out room k (words x) out h

abbrev pub zeros : List ℕ
zeros = 0 ∷ 0 ∷ 0 ∷ 0 ∷ 0 ∷ 0 ∷ 0 ∷ 0 ∷ []

abbrev pub first_eight : List ℕ → List ℕ
first_eight cs = get_or cs 0 0 ∷ get_or cs 1 0 ∷ get_or cs 2 0 ∷ get_or cs 3 0 ∷ get_or cs 4 0 ∷ get_or cs 5 0 ∷ get_or cs 6 0 ∷ get_or cs 7 0 ∷ []

right-codes : (xs : List Symbol) → store_lines symbol_words MAX_RIGHT 0 xs zeros ≡ first_eight (codes xs)
unfolding store_lines symbol_words codes put_line write_at
right-codes [] = refl
right-codes (a ∷ []) = refl
right-codes (a ∷ b ∷ []) = refl
right-codes (a ∷ b ∷ c ∷ []) = refl
right-codes (a ∷ b ∷ c ∷ d ∷ []) = refl
right-codes (a ∷ b ∷ c ∷ d ∷ e ∷ []) = refl
right-codes (a ∷ b ∷ c ∷ d ∷ e ∷ f ∷ []) = refl
right-codes (a ∷ b ∷ c ∷ d ∷ e ∷ f ∷ g ∷ []) = refl
right-codes (a ∷ b ∷ c ∷ d ∷ e ∷ f ∷ g ∷ h ∷ xs) = store-full symbol_words MAX_RIGHT 8 xs _ (omega arith)

rule-line : {A m : ℕ} {right : List ℕ} (r : Rule) → A ≡ r.left → m ≡ length r.right → right ≡ store_lines symbol_words MAX_RIGHT 0 r.right zeros
    → A ∷ m ∷ first_eight right ≡ rule_words r
unfolding rule_words
rule-line r e f g = rw (e, f, g ∙ right-codes r.right)

-- the steps: its number and the left side, the right side, the end, the store
module _ {text right out out' : List ℕ} {room A p₁ m p₂ p₃ : ℕ} (at k : ℕ) where
  pub rule-steps : Gives (numbered k (rest text at)) text A p₁ → Fills symbol_words MAX_RIGHT (symbols (rest text p₁)) text zeros m p₂ right
      → rest text p₃ ≡ closing (rest text p₂) → out' ≡ put_line room k (A ∷ m ∷ first_eight right) out
      → Puts rule_words room k (rule_line k (rest text at)) text out p₃ out'
  unfolding numbered rule_line result remaining
  rule-steps left right_side end stored =
      let words : A ∷ m ∷ first_eight right ≡ rule_words (result (rule_line k (rest text at))) =
      rule-line {right = right} (result (rule_line k (rest text at))) (cc) (cc) (cc) in
      record { remaining_is = cc; array_is = stored ∙ rw words }

-- opens every definition of this module
unfoldable pub opens : Unit {0}
unfolding symbol_words
opens = tt
