-- The two calls as functions on lists: reading (text to words) and evaluating (words and tokens to rows), with every refusal in its order (01,
-- "Turned-back input"). The entry points' contracts are equations with these. Assumes nothing.
use Rattle.std.specs.Prelude.{ℕ, zero, suc, Bool, true, false, ◌&&◌, List, [], ◌∷◌, leb, eqb, length, get_or, replicate}
use Rattle.std.proofs.Math.Option.{Option, none, some}
use Rattle.grammar.specs.Limits.{MAX_TEXT, BOOK_WORDS, PAGE_WORDS, MAX_TOKENS}
use Rattle.grammar.specs.Data.Book.{Book}
use Rattle.grammar.specs.Automaton.States.{go_in}
use Rattle.grammar.specs.Evaluator.Tree.{Token}
use Rattle.grammar.specs.Evaluator.Rows.{page}
use Rattle.grammar.specs.Evaluator.Machine.{Tables, Answer, refused, accepted, evaluate}
use Rattle.grammar.specs.Automaton.Fixpoint.{same_sets}
use Rattle.grammar.specs.Automaton.Actions.{free, action_of}
use Rattle.grammar.specs.Automaton.Compiled.{Compiled, compiled, formula_at}
use Rattle.grammar.specs.Conditions.Decides.{one_to}
use Rattle.grammar.specs.Format.Packing.{pack, unpack}
use Rattle.grammar.specs.Format.Parse.{parse_book}
use Rattle.grammar.specs.Refusal.{book_refusal, refusal}

-- reading

-- 0 where the text is taken, else the refusal; and every lent word afterwards
pub record Reading : Type 0 where
  pub number : ℕ
  pub words : List ℕ

-- "All lent result words or bytes become 0"
unfoldable pub reading_of : ℕ → List ℕ → ℕ → Reading
reading_of zero text lent = record { number = 0; words = pack lent text }
reading_of (suc n) text lent = record { number = suc n; words = replicate lent 0 }

-- "text over 65,536 bytes or result not 16,384 words"
unfoldable pub read_book : List ℕ → ℕ → Reading
read_book text lent =
    elim (leb (length text) MAX_TEXT && eqb lent BOOK_WORDS) [ false ↦ reading_of 1 text lent | true ↦ reading_of (refusal text) text lent ]

-- evaluating

-- the tables that the stack evaluator runs on
unfoldable pub tables_from : Book → Compiled → Tables
tables_from b c = record {
  act = λ S a. action_of (get_or (get_or c.cells S []) a free);
  go = λ S X. go_in b.goes S X;
  formula_at = formula_at c.parts;
}

unfoldable pub tables_of : Book → Tables
tables_of b = tables_from b (compiled b)

-- the book whose filling the words are, if it is taken
unfoldable pub stored_book : List ℕ → Option Book
stored_book words =
    elim (eqb (length words) BOOK_WORDS && same_sets words (pack BOOK_WORDS (unpack words))) [
      | false ↦ none
      | true ↦
          elim (parse_book (unpack words)) [
            | none ↦ none
            | some b ↦ elim (book_refusal b) [ zero ↦ some b | suc n ↦ none ]
          ]
    ]

-- (kind, value) pairs; none where a number is left over
unfoldable pub tokens_of : List ℕ → Option (List Token)
tokens_of [] = some []
tokens_of (k ∷ []) = none
tokens_of (k ∷ v ∷ ns) = elim (tokens_of ns) [ none ↦ none | some ks ↦ some (record { kind = k; value = v } ∷ ks) ]

unfoldable pub kinds_in : ℕ → List Token → Bool
kinds_in T [] = true
kinds_in T (k ∷ ks) = elim (one_to T k.kind) [ true ↦ kinds_in T ks | false ↦ false ]

-- 0 where the message is accepted, else the refusal; every lent row word afterwards; the row count
pub record Evaluation : Type 0 where
  pub number : ℕ
  pub rows : List ℕ
  pub count : ℕ

unfoldable pub turned_back : ℕ → ℕ → Evaluation
turned_back n lent = record { number = n; rows = replicate lent 0; count = 0 }

unfoldable pub evaluation_of : Answer → ℕ → Evaluation
evaluation_of (refused n) lent = turned_back n lent
evaluation_of (accepted rs) lent = record { number = 0; rows = page rs; count = length rs }

unfoldable pub evaluate_tokens : Book → List Token → ℕ → Evaluation
evaluate_tokens b ks lent =
    elim (leb (length ks) MAX_TOKENS) [
      | false ↦ turned_back 13 lent
      | true ↦
          elim (kinds_in b.terminals ks) [ false ↦ turned_back 14 lent | true ↦ evaluation_of (evaluate b (tables_of b) ks) lent ]
    ]

unfoldable pub evaluate_book : Book → List ℕ → ℕ → Evaluation
evaluate_book b tokens lent =
    elim (eqb lent PAGE_WORDS) [
      | false ↦ turned_back 12 lent
      | true ↦ elim (tokens_of tokens) [ none ↦ turned_back 13 lent | some ks ↦ evaluate_tokens b ks lent ]
    ]

unfoldable pub evaluate_words : List ℕ → List ℕ → ℕ → Evaluation
evaluate_words words tokens lent = elim (stored_book words) [ none ↦ turned_back 11 lent | some b ↦ evaluate_book b tokens lent ]

-- opens every definition of this module
unfoldable pub opens : Unit {0}
unfolding reading_of read_book tables_from tables_of stored_book tokens_of kinds_in turned_back evaluation_of evaluate_tokens evaluate_book evaluate_words
opens = tt
