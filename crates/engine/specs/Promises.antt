-- The three demands (`Demands` of crate grammar), of what the two calls answer. The contract of `message_book_read` is `Reads`, that of
-- `message_book_evaluate` is `Evaluates`: what is said of those two records here is said of the numbers and words that a caller finds. Assumes nothing.
use Rattle.std.specs.Prelude.{ℕ, ◌≤◌, ◌≡◌, refl, ◌↔◌, List, length}
use Rattle.std.proofs.Common.{sym, ap, ◌∙◌, arith}
use Rattle.grammar.specs.Limits.{MAX_TEXT, BOOK_WORDS, PAGE_WORDS, MAX_TOKENS}
use Rattle.grammar.specs.Evaluator.Tree.{Token, TokensOf}
use Rattle.grammar.specs.Evaluator.Premises.{Premises}
use Rattle.grammar.specs.Format.Packing.{pack}
use Rattle.grammar.specs.Refusal.{Verdict}
use Rattle.grammar.specs.Engine.{Reading, read_book, tables_of, evaluate_words}
use Rattle.grammar.specs.Demands.{Reads as Reads-right, wrong_lengths, takes, refuses}
use Rattle.grammar.specs.Demands.{Stored, book_of, numbers_of, Evaluates as Evaluates-right, Figures}
use Rattle.grammar.proofs.DemandsProof.{taken-right, refusal-right, reading-right, evaluating-right, tables-right, figures-right}
use Rattle.attempts.specs.Readings.{Reads, text-number, read_number_lem}
use Rattle.attempts.specs.Evaluations.{Evaluates}

-- ---- message_book_read: the number r, and the words afterwards

module _ (text : List ℕ) (lent : ℕ) {r : ℕ} {words : List ℕ} (h : Reads (read_book text lent) r words) where
  answer : read_book text lent ≡ record { number = r; words = words }
  answer = rw (h.number_is, h.words_are) refl

  -- demand 1: 1 by the lengths alone, else what 01 answers to the text; its filling, or zeros
  pub read-answers : Reads-right text lent (record { number = r; words = words })
  read-answers = rw answer at (reading-right text lent)

  -- demand 2: a text is taken exactly if it meets all conditions, and refused with n exactly if condition n is broken and none before it
  pub read-verdict : length text ≤ MAX_TEXT → lent ≡ BOOK_WORDS → (n : ℕ) → (r ≡ n) ↔ Verdict text n
  read-verdict s l n =
      let e = read_number_lem text lent h.number_is ∙ text-number text lent s l in
      (λ q. (refusal-right text n).0 (sym e ∙ q), λ v. e ∙ (refusal-right text n).1 v)

-- ---- message_book_evaluate: the number r, the rows and the row count afterwards

module _ (words tokens : List ℕ) (lent : ℕ) {r : ℕ} {rows : List ℕ} {count : ℕ}
    (h : Evaluates (evaluate_words words tokens lent) r rows count) where
  evaluation : evaluate_words words tokens lent ≡ record { number = r; rows = rows; count = count }
  evaluation = rw (h.number_is, h.rows_are, h.count_is) refl

  -- demand 1: 11 exactly if no taken book fills the words, then 12, 13, 14 in this order, else the stack evaluator's answer
  pub evaluate-answers : Evaluates-right words tokens lent (record { number = r; rows = rows; count = count })
  evaluate-answers = rw evaluation at (evaluating-right words tokens lent)

  -- demand 3: the figures of a message of the book's tokens
  pub evaluate-figures : (s : Stored words) (ks : List Token) → tokens ≡ numbers_of ks → length ks ≤ MAX_TOKENS → TokensOf (book_of s) ks
      → lent ≡ PAGE_WORDS → Figures (book_of s) ks (record { number = r; rows = rows; count = count })
  evaluate-figures s ks e few kinds l =
      let same : evaluate_words words (numbers_of ks) PAGE_WORDS ≡ record { number = r; rows = rows; count = count } = rw (← e, ← l) evaluation in
      rw same at (figures-right words s ks few kinds)

-- the tables on which the evaluator runs are what the items and chains of the book's states say
pub evaluator-tables : {words : List ℕ} (s : Stored words) → Premises (book_of s) (tables_of (book_of s))
evaluator-tables {words} s = tables-right words s

-- ---- from one call to the other

found : {text : List ℕ} {lent : ℕ} {reading : Reading} → Reads-right text lent reading → reading.number ≡ 0
    → (s : Stored reading.words) × (s.text ≡ text)
found (wrong_lengths h) z = absurd (omega (arith, z))
found {text} (takes l v) z = (
  record {
    text = text;
    its_book = (taken-right text).0 ((refusal-right text 0).1 v);
    short_text = l.short_text;
    filling = ap (λ (n : ℕ). pack n text) l.all_words;
  },
  refl,
)
found (refuses l n v) z = absurd (n z)

-- the words of a text that is taken are a stored book, of that text
pub read-stored : (text : List ℕ) (lent : ℕ) {words : List ℕ} → Reads (read_book text lent) 0 words → (s : Stored words) × (s.text ≡ text)
read-stored text lent h = found (read-answers text lent h) refl
