-- Words and rows printed one after another, from a place on.
-- Assumes nothing.
use Rattle.std.specs.Prelude.{ℕ, zero, suc, ◌+◌, ◌*◌, ◌-◌, ◌≤◌, ◌<◌, ◌≡◌, refl, List, [], get_or, take, drop, Result, Ok, Err, IfOk}
use Rattle.std.proofs.Common.{sym, ◌∙◌, append-nil, drop_of_length-le, drop-drop}
use native.Mathlib.Omega.{arith}
use Rattle.std.proofs.Math.ListN.{length}
use Rattle.text.proofs.RestLaws.{drop_more}
use Rattle.grammar.specs.Format.Printer.{Printer, each}
use Rattle.grammar.specs.Limits.{ROW_WORDS, MAX_ROWS, PAGE_WORDS}
use Rattle.console.specs.Desk.{Answer, refused, accepted, answer_of, print_word, print_row, print_rows, print_answer}
use Rattle.console.specs.Output.{Puts}

-- `(row`, ten words of a space and up to ten digits, `)` and the line feed
abbrev pub ROW_BYTES : ℕ
ROW_BYTES = 116

-- 512 rows, and `(accepted 512)` with the line feed or any other last line
abbrev pub OUTPUT_BYTES : ℕ
OUTPUT_BYTES = 59414

-- the words from i on
abbrev pub words_from : List ℕ → ℕ → Printer
words_from words i = each print_word (drop i words)

module _ (words : List ℕ) where
  pub words-turn : (i : ℕ) → i < length words → (r : List ℕ) → words_from words i r ≡ print_word (get_or words i 0) (words_from words (i + 1) r)
  unfolding each
  words-turn i h r = rw (drop_more words i h)

  pub words-end : (r : List ℕ) → words_from words (length words) r ≡ r
  unfolding each
  words-end r = rw (drop_of_length-le words {i = length words} (omega arith))

-- the rows from k on
abbrev pub rows_from : ℕ → List ℕ → ℕ → Printer
rows_from count rows k = print_rows (count - k) (drop (ROW_WORDS * k) rows)

rows-first : (n : ℕ) (page r : List ℕ) → 1 ≤ n → print_rows n page r ≡ print_row (take ROW_WORDS page) (print_rows (n - 1) (drop ROW_WORDS page) r)
unfolding print_rows
rows-first zero page r h = absurd (omega arith)
rows-first (suc n) page r h = let e : suc n - 1 ≡ n = omega arith in rw e

module _ (count : ℕ) (rows : List ℕ) where
  pub rows_start : (r : List ℕ) → rows_from count rows 0 r ≡ print_rows count rows r
  rows_start r = let e : count - 0 ≡ count = omega arith in rw e

  -- row k is the part of the page from ten times k on
  pub rows-turn : (k : ℕ) → k < count → (r : List ℕ)
      → rows_from count rows k r
      ≡ print_row (take (ROW_WORDS * k + ROW_WORDS - ROW_WORDS * k) (drop (ROW_WORDS * k) rows)) (rows_from count rows (k + 1) r)
  rows-turn k h r =
      let w : ROW_WORDS * k + ROW_WORDS - ROW_WORDS * k ≡ ROW_WORDS = omega arith in
      let e : count - k - 1 ≡ count - (k + 1) = omega arith in
      let f : ROW_WORDS * k + ROW_WORDS ≡ ROW_WORDS * (k + 1) = omega arith in
      rw w (rows-first (count - k) (drop (ROW_WORDS * k) rows) r (omega arith) ∙ rw (drop-drop ROW_WORDS (ROW_WORDS * k) rows, e, f))

  pub rows_end : (r : List ℕ) → rows_from count rows count r ≡ r
  unfolding print_rows
  rows_end r = let e : count - count ≡ 0 = omega arith in rw e

-- of a count of rows or a refusal's number, and the rows' words
abbrev pub answer_in : Result ℕ ℕ → List ℕ → Answer
answer_in (Ok count) rows = accepted count rows
answer_in (Err number) rows = refused number

-- `answer_of` of a refusal's number, or of 0 and a count, is one of the two

pub refused-is : {number : ℕ} (count : ℕ) (rows : List ℕ) → (number ≡ 0 → ⊥) → refused number ≡ answer_of number count rows
unfolding answer_of
refused-is {number} count rows h = go number h
  where
    go : (n : ℕ) → (n ≡ 0 → ⊥) → refused n ≡ answer_of n count rows
    go zero h = absurd (h refl)
    go (suc n) h = refl

pub accepted-is : {number : ℕ} (count : ℕ) (rows : List ℕ) → number ≡ 0 → accepted count rows ≡ answer_of number count rows
unfolding answer_of
accepted-is count rows h = rw h

-- a refusal, or a count of rows for which there is room
pub record Printable (answer : Result ℕ ℕ) (rows out : List ℕ) : Type 0 where
  pub few : IfOk answer (λ count. count ≤ MAX_ROWS)
  pub page : length rows ≡ PAGE_WORDS
  pub room : OUTPUT_BYTES ≤ length out

-- the answer stands at the beginning of the buffer
pub record Printed (answer : Answer) (out : List ℕ) (next : ℕ) : Type 0 where
  pub text_is : take next out ≡ print_answer answer []
  pub within : next ≤ OUTPUT_BYTES

pub printed : {answer : Answer} {before after : List ℕ} {next most : ℕ} → Puts (print_answer answer) most before 0 after next → most ≤ OUTPUT_BYTES
    → Printed answer after next
printed {after = after} {next} p h = record { text_is = sym (append-nil (take next after)) ∙ p.text_is []; within = omega (arith, p.within) }

pub printed-same : {x y : Answer} {out : List ℕ} {next : ℕ} → x ≡ y → Printed x out next → Printed y out next
printed-same e p = rw (← e) p
