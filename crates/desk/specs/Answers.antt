-- The answer in code: what is lent to the two calls, and what is asked of their figures.
-- Assumes nothing.
use Prim.Native.Nat.{ℕ, zero, suc, ◌*◌, ◌≤◌, ◌<◌}
use Rattle.std.specs.Prelude.{◌≡◌, take, Result, Ok, Err, IfOk, IsErrAnd, MatchResult}
use Rattle.std.proofs.Math.Path.{refl, sym}
use Rattle.std.proofs.Common.{ap, ◌∙◌, arith, length-take}
use Rattle.std.proofs.Math.Option.{some}
use mathlib.Core.List.{List, [], ◌∷◌}
use Rattle.std.proofs.Math.ListN.{length}
use Rattle.grammar.specs.Limits.{MAX_TEXT, BOOK_WORDS, MAX_ROWS, PAGE_WORDS}
use Rattle.grammar.specs.Engine.{Reading, read_book, Evaluation, turned_back, evaluate_words}
use Rattle.grammar.specs.Cases.Cases.{after_reading, calls}
use Rattle.attempts.specs.Readings.{Reads, refused-some}
use Rattle.attempts.specs.Evaluations.{Evaluates, count_of}
use Rattle.book.specs.declared.refusal.Refusal.{Refusal}
use Rattle.book.specs.Refusals.{number_of, answer_of as number}
use Rattle.console.specs.Desk.{Input, refused, accepted, answer_of, evaluated, answer, answer_to}
use Rattle.console.specs.Figures.{few-rows, calls-kept, answer-evaluated}
use Rattle.console.specs.Holds.{HoldsBook, HoldsTokens}
use Rattle.console.specs.Kept.{KEPT_NUMBERS}
use Rattle.console.specs.Printing.{answer_in, refused-is, accepted-is}
use Rattle.console.proofs.Settled.{unended}
use Rattle.console.proofs.Stands.{stands-front, stands-alone}

-- the words of a stored book and of a page of rows
pub record Lengths (words rows : List ℕ) : Type 0 where
  pub words_long : length words ≡ BOOK_WORDS
  pub rows_long : length rows ≡ PAGE_WORDS

-- with a refusal by its number
abbrev pub numbered : Result ℕ Refusal → Result ℕ ℕ
numbered (Ok count) = Ok count
numbered (Err refusal) = Err (number_of refusal)

-- as it is handed on
pub numbered-is : (answer : Result ℕ Refusal) {told : Result ℕ ℕ}
    → MatchResult answer (λ count. told ≡ Ok count) (λ refusal. IsErrAnd told (λ n. n ≡ number_of refusal)) → told ≡ numbered answer
numbered-is (Ok count) h = h
numbered-is (Err refusal) {told = Ok count} h = absurd h
numbered-is (Err refusal) {told = Err n} h = rw h

-- the answer and the rows are the evaluation's
pub record Figured (e : Evaluation) (answer : Result ℕ Refusal) (rows : List ℕ) : Type 0 where
  pub answer_is : answer_in (numbered answer) rows ≡ evaluated e

-- by its number and its count
in-numbers : (answer : Result ℕ Refusal) (rows : List ℕ) → answer_in (numbered answer) rows ≡ answer_of (number answer) (count_of answer) rows
unfolding number count_of
in-numbers (Ok count) rows = accepted-is count rows refl
in-numbers (Err refusal) rows = refused-is 0 rows (refused-some (Err refusal) refl)

module _ (text tokens : List ℕ) where
  after-refused : (r : Reading) (n : ℕ) → n ≡ r.number → (n ≡ 0 → ⊥) → refused n ≡ evaluated (after_reading r tokens)
  unfolding after_reading turned_back answer_of
  after-refused r zero e h = absurd (h refl)
  after-refused r (suc n) e h = rw (← e, after_reading)

  -- reading refuses the text
  pub figured-refused : (refusal : Refusal) (rows : List ℕ) {lent : ℕ} {words : List ℕ} → lent ≡ BOOK_WORDS
      → Reads (read_book text lent) (number_of refusal) words → Figured (calls text tokens) (Err refusal) rows
  unfolding calls number
  figured-refused refusal rows l r =
      record { answer_is = after-refused (read_book text BOOK_WORDS) (number_of refusal) (rw l at r.number_is) (refused-some (Err refusal) refl) }

  after-taken : (r : Reading) → 0 ≡ r.number → after_reading r tokens ≡ evaluate_words r.words tokens PAGE_WORDS
  unfolding after_reading
  after-taken r e = rw (← e, after_reading)

  -- reading takes the text, and evaluating answers
  pub figured-evaluated : (answer : Result ℕ Refusal) {lent page : ℕ} {words rows : List ℕ} → lent ≡ BOOK_WORDS → page ≡ PAGE_WORDS
      → Reads (read_book text lent) 0 words → Evaluates (evaluate_words words tokens page) (number answer) rows (count_of answer)
      → Figured (calls text tokens) answer rows
  unfolding calls
  figured-evaluated answer {page = page} {words} {rows} l p r e =
      let reading : Reading = read_book text BOOK_WORDS in
      let w : words ≡ reading.words = rw l at r.words_are in
      let said : calls text tokens ≡ evaluate_words words tokens page = after-taken reading (rw l at r.number_is) ∙ rw (w, p) in
      record { answer_is = in-numbers answer rows ∙ rw (said, ← e.number_is, ← e.count_is, ← e.rows_are) }

same_count : (c : ℕ) (rows : List ℕ) (n k : ℕ) (page : List ℕ) → accepted c rows ≡ answer_of n k page → (n ≡ 0) × (c ≡ k)
unfolding answer_of
same_count c rows zero k page e = (refl, cc)
same_count c rows (suc n) k page e = cc

-- no more rows than there is room for
pub figured-few : {answer : Result ℕ Refusal} {rows : List ℕ} (text tokens : List ℕ) → Figured (calls text tokens) answer rows
    → IfOk (numbered answer) (λ count. count ≤ MAX_ROWS)
figured-few {answer} {rows} text tokens f = go answer f.answer_is
  where
    e : Evaluation
    e = calls text tokens

    go : (a : Result ℕ Refusal) → answer_in (numbered a) rows ≡ evaluated e → IfOk (numbered a) (λ count. count ≤ MAX_ROWS)
    go (Ok count) q = let s = same_count count rows e.number e.count e.rows q in omega (arith, few-rows text tokens s.0, s.1)
    go (Err refusal) q = tt

-- Where the input ends

module _ {text : List ℕ} {line at : ℕ} {i : Input} (h : HoldsBook text line at i) where
  pub book-answered : answer (take at text) (some []) ≡ answer_to i
  unfolding answer_to
  book-answered = rw (h.input_is, h.stands.text_is)

module _ {text buffer : List ℕ} {book at count : ℕ} {i : Input} (h : HoldsTokens text buffer book at count i) where
  -- the parts that are lent to the calls
  pub text-within : book ≤ length text
  text-within = (stands-alone h.stands).within

  pub numbers-within : 2 * count ≤ length buffer
  numbers-within = omega (arith, length-take (2 * count) buffer, ap length h.kept.numbers_are, h.kept.count_is)

  short_text : length h.its_text ≤ MAX_TEXT
  short_text = omega (arith, h.short, h.stands.front_is)

  pub tokens-unended : book < at → refused 2 ≡ answer_to i
  tokens-unended l =
      rw h.input_is (sym (unended h.its_text short_text (some h.numbers) h.at_hand (omega (arith, h.stands.line_is, h.stands.front_is))))

  pub tokens-answered : at ≤ book → answer (take book text) (some (take (2 * count) buffer)) ≡ answer_to i
  unfolding answer_to
  tokens-answered l =
      rw (h.input_is, empty h.at_hand (omega (arith, h.stands.line_is, h.stands.front_is)), stands-front h.stands, h.kept.numbers_are)
      (answer-evaluated h.its_text (take KEPT_NUMBERS h.numbers) short_text
      ∙ (ap evaluated (calls-kept h.its_text h.numbers) ∙ sym (answer-evaluated h.its_text h.numbers short_text)))
    where
      empty : (xs : List ℕ) → length xs ≤ 0 → xs ≡ []
      empty [] e = refl
      empty (x ∷ xs) e = absurd (omega arith)
