-- What evaluating answers, by its number (01, "Turned-back input"): the stored book is asked first, then the lengths and kinds of the message, then
-- the machine runs. Assumes nothing.
use Rattle.std.specs.Prelude.{ℕ, ◌*◌, ◌%◌, ◌<◌, ◌≤◌, ◌≡◌, Bool, true, List, length, replicate, Result, Ok, Err, is_err, MatchResult}
use Rattle.std.proofs.Math.Path.{refl, sym}
use Rattle.std.proofs.Common.{ap, ◌∙◌, arith, le-leb, eq-eqb, ne_eqb}
use Rattle.std.proofs.Math.Bool.{false}
use Rattle.std.proofs.Math.Option.{none, some}
use Rattle.std.proofs.lemmas.Bool.{lt-leb}
use Rattle.grammar.specs.Limits.{PAGE_WORDS, MAX_TOKENS}
use Rattle.grammar.specs.Data.Book.{Book}
use Rattle.grammar.specs.Evaluator.Machine.{Answer, refused, accepted, evaluate}
use Rattle.grammar.specs.Engine.{
  tables_of,
  stored_book,
  kinds_in,
  Evaluation,
  turned_back,
  evaluation_of,
  evaluate_tokens,
  evaluate_book,
  evaluate_words,
}
use Rattle.book.specs.declared.refusal.Refusal.{Refusal}
use Rattle.book.specs.declared.refusal.Refusal.TheVariants.{Stored, RowLength, Tokens, TokenKind}
use Rattle.book.specs.Refusals.{number_of, answer_of}
use Rattle.messages.specs.Pages.{Paged}
use Rattle.messages.specs.Messages.{Message}
use Rattle.attempts.specs.Tokens.{kinds_right, kinds-right, tokens-odd, tokens-even}

-- the number that is answered, every lent row word and the row count afterwards
pub record Evaluates (evaluation : Evaluation) (number : ℕ) (rows : List ℕ) (count : ℕ) : Type 0 where
  pub number_is : number ≡ evaluation.number
  pub rows_are : rows ≡ evaluation.rows
  pub count_is : count ≡ evaluation.count

-- the row count of an answer; a message that is turned back has none
unfoldable pub count_of : Result ℕ Refusal → ℕ
count_of (Ok count) = count
count_of (Err e) = 0

-- the refusal, or the row count and the rows; the rows of a message that is turned back may be anything
pub record Answers (evaluation : Evaluation) (lent : ℕ) (answer : Result ℕ Refusal) (rows : List ℕ) : Type 0 where
  pub says : MatchResult answer (λ count. Evaluates evaluation 0 rows count) (λ refusal. evaluation ≡ turned_back (number_of refusal) lent)

module _ {evaluation : Evaluation} {lent : ℕ} {answer : Result ℕ Refusal} {rows : List ℕ} (a : Answers evaluation lent answer rows) where
  pub evaluates-taken : is_err answer ≡ false → Evaluates evaluation (answer_of answer) rows (count_of answer)
  unfolding answer_of count_of
  evaluates-taken z = go answer a.says z
    where
      go : (r : Result ℕ Refusal)
          → MatchResult r (λ count. Evaluates evaluation 0 rows count) (λ refusal. evaluation ≡ turned_back (number_of refusal) lent)
          → is_err r ≡ false → Evaluates evaluation (answer_of r) rows (count_of r)
      go (Ok count) says z = says
      go (Err refusal) says z = cc

  -- once they are cleared
  pub evaluates-cleared : {cleared : List ℕ} → is_err answer ≡ true → cleared ≡ replicate lent 0
      → Evaluates evaluation (answer_of answer) cleared (count_of answer)
  unfolding turned_back answer_of count_of
  evaluates-cleared {cleared} z e = go answer a.says z
    where
      go : (r : Result ℕ Refusal)
          → MatchResult r (λ count. Evaluates evaluation 0 rows count) (λ refusal. evaluation ≡ turned_back (number_of refusal) lent)
          → is_err r ≡ true → Evaluates evaluation (answer_of r) cleared (count_of r)
      go (Ok count) says z = cc
      go (Err refusal) says z = rw says (record { number_is = refl; rows_are = e; count_is = refl })

-- ---- the lengths and the kinds of a message

-- there are as many rows and tokens as may be, and their kinds are the book's
pub record Passed (T : ℕ) (tokens : List ℕ) (lent : ℕ) : Type 0 where
  pub all_rows : lent ≡ PAGE_WORDS
  pub its_message : Message T tokens

-- the first of 12, 13 and 14 that applies
pub record Asked (T : ℕ) (tokens : List ℕ) (lent : ℕ) (answer : Result Unit Refusal) : Type 0 where
  pub says : MatchResult answer (λ _. Passed T tokens lent)
      (λ refusal. (b : Book) → T ≡ b.terminals → evaluate_book b tokens lent ≡ turned_back (number_of refusal) lent)

module _ (T : ℕ) (tokens : List ℕ) (lent : ℕ) where
  pub asked-rows : (lent ≡ PAGE_WORDS → ⊥) → Asked T tokens lent (Err RowLength)
  unfolding evaluate_book number_of
  asked-rows n = record { says = λ b _. rw (ne_eqb lent PAGE_WORDS n, evaluate_book) }

  module _ (r : lent ≡ PAGE_WORDS) where
    pub asked-odd : (length tokens % 2 ≡ 0 → ⊥) → Asked T tokens lent (Err Tokens)
    unfolding evaluate_book number_of
    asked-odd n = record { says = λ b _. rw (eq-eqb lent PAGE_WORDS r, evaluate_book) (rw (tokens-odd tokens n)) }

    module _ (even : length tokens % 2 ≡ 0) where
      pub asked-long : 2 * MAX_TOKENS < length tokens → Asked T tokens lent (Err Tokens)
      unfolding evaluate_book evaluate_tokens number_of
      asked-long h = tokens-even tokens even λ ks e l.
          record {
            says = λ b _. rw (eq-eqb lent PAGE_WORDS r, evaluate_book) (rw e (rw (lt-leb (length ks) MAX_TOKENS (omega (arith, h, l)), evaluate_tokens)));
          }

      module _ (h : length tokens ≤ 2 * MAX_TOKENS) {right : Bool} (right_is : right ≡ kinds_right T tokens) where
        pub asked-kinds : right ≡ false → Asked T tokens lent (Err TokenKind)
        unfolding evaluate_book evaluate_tokens number_of
        asked-kinds f = tokens-even tokens even λ ks e l.
            record {
              says = λ b t.
                  let k : kinds_in b.terminals ks ≡ false = rw (← t) (sym (kinds-right T tokens ks e) ∙ sym right_is ∙ f) in
                  rw (eq-eqb lent PAGE_WORDS r, evaluate_book) (rw e (rw (le-leb (length ks) MAX_TOKENS (omega (arith, h, l)), evaluate_tokens) (rw k)));
            }

        pub asked-all : right ≡ true → Passed T tokens lent
        asked-all f = tokens-even tokens even λ ks e l.
            record {
              all_rows = r;
              its_message = record {
                list = ks;
                tokens_are = e;
                few = omega (arith, h, l);
                kinds = sym (kinds-right T tokens ks e) ∙ sym right_is ∙ f;
              };
            }

-- ---- the run

-- the machine answers
pub message-run : (b : Book) {T : ℕ} {tokens : List ℕ} (m : Message T tokens) → T ≡ b.terminals → (lent : ℕ) → lent ≡ PAGE_WORDS
    → evaluate_book b tokens lent ≡ evaluation_of (evaluate b (tables_of b) m.list) lent
unfolding evaluate_book evaluate_tokens
message-run b m t lent all =
    let k : kinds_in b.terminals m.list ≡ true = rw (← t) m.kinds in
    rw (eq-eqb lent PAGE_WORDS all, evaluate_book)
    (rw m.tokens_are (rw (le-leb (length m.list) MAX_TOKENS m.few, evaluate_tokens) (rw k)))

-- the machine's answer
answers-ran : {evaluation : Evaluation} {lent : ℕ} {rows : List ℕ} (x : Answer) (answer : Result ℕ Refusal) → evaluation ≡ evaluation_of x lent
    → Paged x answer rows → Answers evaluation lent answer rows
unfolding evaluation_of
answers-ran {lent = lent} (refused n) (Err refusal) p number_is = record { says = p ∙ ap (λ (k : ℕ). turned_back k lent) (sym number_is) }
answers-ran (refused n) (Ok count) p told = absurd told
answers-ran (accepted rs) (Ok count) p (count_is, rows_are) =
    record { says = rw p (record { number_is = refl; rows_are = rows_are; count_is = count_is }) }
answers-ran (accepted rs) (Err refusal) p told = absurd told

-- ---- the book

module _ (words tokens : List ℕ) (lent : ℕ) where
  pub evaluate-none : stored_book words ≡ none → evaluate_words words tokens lent ≡ turned_back 11 lent
  unfolding evaluate_words
  evaluate-none e = rw (e, evaluate_words)

  pub evaluate-book : (b : Book) → stored_book words ≡ some b → evaluate_words words tokens lent ≡ evaluate_book b tokens lent
  unfolding evaluate_words
  evaluate-book b e = rw (e, evaluate_words)

  module _ {T : ℕ} (b : Book) (e : stored_book words ≡ some b) (t : T ≡ b.terminals) where
    pub answers-asked : {refusal : Refusal} {rows : List ℕ} → Asked T tokens lent (Err refusal)
        → Answers (evaluate_words words tokens lent) lent (Err refusal) rows
    answers-asked a = record { says = evaluate-book b e ∙ a.says b t }

    pub answers-run : {rows : List ℕ} (answer : Result ℕ Refusal) (p : Passed T tokens lent) → Paged (evaluate b (tables_of b) p.its_message.list) answer rows
        → Answers (evaluate_words words tokens lent) lent answer rows
    answers-run answer p told =
        answers-ran (evaluate b (tables_of b) p.its_message.list) answer (evaluate-book b e ∙ message-run b p.its_message t lent p.all_rows) told

  -- 11
  pub answers-none : {rows : List ℕ} → stored_book words ≡ none → Answers (evaluate_words words tokens lent) lent (Err Stored) rows
  unfolding number_of
  answers-none e = record { says = evaluate-none e }

-- opens every definition of this module
unfoldable pub opens : Unit {0}
unfolding count_of
opens = tt
