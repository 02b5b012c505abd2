-- The lines of the section go: the key of a line, how much a line leaves, and that the code's steps, one after another, read and keep a whole line.
-- Assumes nothing.
use Rattle.std.specs.Prelude.{ℕ, ◌≤◌, ◌≡◌, Bool, List, [], ◌∷◌}
use Rattle.text.specs.Class.{space}
use Rattle.text.specs.Rest.{Rest, rest, must, mark, size}
use Rattle.text.specs.Numeral.{decimal, value, past, word_of}
use Rattle.text.specs.Reading.{Reads}
use Rattle.grammar.specs.Data.Symbol.{Symbol}
use Rattle.grammar.specs.Format.Ordered.{symbol_key, go_key}
use Rattle.grammar.specs.Format.Reader.{result, remaining, opening, closing}
use Rattle.grammar.specs.Format.ReaderLaws.{shrinking, opening-less}
use Rattle.grammar.specs.Format.Parse.{is_before, symbol, go_line, go_lines}
use Rattle.book.specs.Layout.{put_line, symbol_code, go_words}
use Rattle.book.specs.Sections.{Gives, Shrinks, size-section, PutsKeyed}

-- the words of a go line
abbrev pub GO_WORDS : ℕ
GO_WORDS = 3

pub go-shrinks : (word : ℕ) → Shrinks (opening word) go_line
unfolding go_line symbol remaining
go-shrinks word = record { head_less = opening-less word; one_less = λ last o. search shrinking depth 20 }

pub goes-size : (o : Rest) → size (remaining (go_lines o)) ≤ size o
unfolding go_lines
goes-size o = size-section (opening (word_of "go")) go_line (λ last. go_key) (go-shrinks (word_of "go")) [] o

-- What a line says, and the position after it

pub record Goes (text : List ℕ) (at S : ℕ) (X : Symbol) (M next : ℕ) : Type 0 where
  pub state_is : S ≡ value decimal (rest text at)
  pub symbol_is : X ≡ result (symbol (mark space (past decimal (rest text at))))
  pub target_is : M ≡ value decimal (mark space (remaining (symbol (mark space (past decimal (rest text at))))))
  pub rest_is : rest text next ≡ closing (past decimal (mark space (remaining (symbol (mark space (past decimal (rest text at)))))))

pub goes_of : {text : List ℕ} {at S p₁ p₃ p₄ M p₅ p₆ : ℕ} (X : Symbol) (p₂ : ℕ) → Reads decimal text at S p₁ → rest text p₂ ≡ mark space (rest text p₁)
    → Gives (symbol (rest text p₂)) text X p₃ → rest text p₄ ≡ mark space (rest text p₃) → Reads decimal text p₄ M p₅
    → rest text p₆ ≡ closing (rest text p₅) → Goes text at S X M p₆
goes_of X p₂ state e₁ on e₂ target end = record { state_is = cc; symbol_is = cc; target_is = cc; rest_is = cc }

-- The steps of a line: what it says, the key, the order, the store

module _ {text out out' key : List ℕ} {ascending : Bool} {room k at S code M p₆ p₇ : ℕ} (last : List ℕ) (X : Symbol) where
  pub go-steps : Goes text at S X M p₆ → key ≡ S ∷ symbol_key X → ascending ≡ is_before last key
      → rest text p₇ ≡ must ascending (rest text p₆) → code ≡ symbol_code X → out' ≡ put_line room k (S ∷ code ∷ M ∷ []) out
      → PutsKeyed go_key go_words room k (go_line last (rest text at)) text out key p₇ out'
  unfolding go_line go_key go_words result remaining
  go-steps says keyed before due coded stored = record { key-is = cc; puts = record { remaining_is = cc; array_is = cc } }
