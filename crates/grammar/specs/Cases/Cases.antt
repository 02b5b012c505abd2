-- The cases: 01's starred edges, and small books that tell an engine with one of 01's plausible slips from a right one. One table, and one proof over
-- it (proofs/Cases/CasesProof.antt). Assumes nothing.
use Rattle.std.specs.Prelude.{ℕ, zero, suc, ◌-◌, ◌≡◌, Bool, true, false, ◌&&◌, List, [], ◌∷◌, ◌++◌, eqb, leb, length, replicate}
use Prim.Native.String.{String}
use Rattle.std.proofs.Math.Option.{none, some}
use Rattle.grammar.specs.Limits.{MAX_TEXT, BOOK_WORDS, PAGE_WORDS}
use Rattle.grammar.specs.Format.Packing.{pack}
use Rattle.grammar.specs.Format.Parse.{parse_book}
use Rattle.grammar.specs.Refusal.{book_refusal}
use Rattle.grammar.specs.Automaton.Fixpoint.{same_sets}
use Rattle.grammar.specs.Engine.{Reading, read_book, Evaluation, turned_back, evaluate_book, evaluate_words}
use Rattle.grammar.specs.Cases.CaseBooks.{unlines, change, without, S, left-recursive, binary, two-lookaheads, two-offsets, set-once, dead_end}

-- what the two calls answer to a book's text and token numbers, with all words lent: the refusal of the text, or what evaluating its words gives
unfoldable pub after_reading : Reading → List ℕ → Evaluation
after_reading r tokens = elim r.number [ zero ↦ evaluate_words r.words tokens PAGE_WORDS | suc n ↦ turned_back (suc n) PAGE_WORDS ]

unfoldable pub calls : List ℕ → List ℕ → Evaluation
calls text tokens = after_reading (read_book text BOOK_WORDS) tokens

-- what a case expects: the book is refused, the message is refused, or it is accepted with so many rows, whose words these are
pub data Expected : Type 0 where
  book_refused message_refused : ℕ → Expected
  accepted : ℕ → List ℕ → Expected

-- reading's number and every lent word: zeros after a refusal, else the text's filling
unfoldable pub expected_reading : Expected → List ℕ → Reading
expected_reading (book_refused n) text = record { number = n; words = replicate BOOK_WORDS 0 }
expected_reading (message_refused n) text = record { number = 0; words = pack BOOK_WORDS text }
expected_reading (accepted count words) text = record { number = 0; words = pack BOOK_WORDS text }

-- the number, every lent row word and the row count: zeros after a refusal, else the rows and zeros after them
unfoldable pub expected_evaluation : Expected → Evaluation
expected_evaluation (book_refused n) = record { number = n; rows = replicate PAGE_WORDS 0; count = 0 }
expected_evaluation (message_refused n) = record { number = n; rows = replicate PAGE_WORDS 0; count = 0 }
expected_evaluation (accepted count words) = record { number = 0; rows = words ++ replicate (PAGE_WORDS - length words) 0; count = count }

pub record Case : Type 0 where
  pub lines : List String
  pub tokens : List ℕ
  pub expected : Expected

-- the two calls answer as the case expects
pub record Answered (c : Case) : Type 0 where
  pub book_is : read_book (unlines c.lines) BOOK_WORDS ≡ expected_reading c.expected (unlines c.lines)
  pub message_is : calls (unlines c.lines) c.tokens ≡ expected_evaluation c.expected

-- The table

-- a row by its ten words, as 01 prints it
abbrev row : ℕ → ℕ → ℕ → ℕ → ℕ → ℕ → ℕ → ℕ → ℕ → ℕ → List ℕ
row a b c d e f g h i j = a ∷ b ∷ c ∷ d ∷ e ∷ f ∷ g ∷ h ∷ i ∷ j ∷ []

-- t1 100, t2 5, t2 7
abbrev pub message : List ℕ
message = 1 ∷ 100 ∷ 2 ∷ 5 ∷ 2 ∷ 7 ∷ []

abbrev pub S-rows : List ℕ
S-rows =
    row 65 0 0 0 0 0 100 0 0 0
    ++ row 66 1 0 0 0 0 5 0 0 0
    ++ row 66 2 0 0 0 0 7 0 0 0
    ++ row 2 3 112 0 0 0 112 0 0 0
    ++ row 3 2 105 0 0 0 112 0 0 0
    ++ row 3 1 100 0 0 0 112 0 0 0
    ++ row 1 0 0 0 0 0 112 0 0 0

abbrev pub case : List String → List ℕ → Expected → Case
case lines tokens expected = record { lines = lines; tokens = tokens; expected = expected }

-- 01, "Edges": the rows of the table other than 1, 11, 12, 16, 17; S; row 10 with `(own i0)` alone; 003's binary 101
unfoldable pub starred : List Case
starred =
    case (change 5 "(rule 01 n1 t1 n2)" S) message (book_refused 2)
    ∷ case (change 0 "(book 32 2 6)" S) message (book_refused 3)
    ∷ case (change 5 "(rule 1 n1 t3 n2)" S) message (book_refused 4)
    ∷ case (change 8 "(inhdef 1 2 i0 (val 2))" S) message (book_refused 5)
    ∷ case (without 11 S) message (book_refused 6)
    ∷ case (change 14 "(kernel 1 1 0 t0)" S) message (book_refused 7)
    ∷ case (without 24 S) message (book_refused 8)
    ∷ case (change 16 "(kernel 3 3 1 t0 t2)" (change 18 "(kernel 5 3 2 t0 t2)" S)) message (book_refused 9)
    ∷ case left-recursive message (book_refused 10)
    ∷ case S (1 ∷ 100 ∷ 2 ∷ 5 ∷ 2 ∷ 7 ∷ 2 ∷ []) (message_refused 13)
    ∷ case S (3 ∷ 1 ∷ []) (message_refused 14)
    ∷ case S [] (message_refused 15)
    ∷ case S message (accepted 7 S-rows)
    ∷ case (change 9 "(inhdef 3 1 i0 (own i0))" left-recursive) message
    (accepted 7
    (row 65 0 0 0 0 0 100 0 0 0
    ++ row 2 1 100 0 0 0 100 0 0 0
    ++ row 66 1 0 0 0 0 5 0 0 0
    ++ row 3 1 100 0 0 0 100 0 0 0
    ++ row 66 2 0 0 0 0 7 0 0 0
    ++ row 3 1 100 0 0 0 100 0 0 0
    ++ row 1 0 0 0 0 0 100 0 0 0))
    ∷ case binary (2 ∷ 0 ∷ 1 ∷ 0 ∷ 2 ∷ 0 ∷ [])
    (accepted 10
    (row 66 0 0 0 0 0 0 0 0 0
    ++ row 5 0 0 0 0 0 1 0 0 0
    ++ row 3 0 0 0 0 0 1 1 0 0
    ++ row 65 1 0 0 0 0 0 0 0 0
    ++ row 4 1 0 0 0 0 0 0 0 0
    ++ row 2 0 0 0 0 0 2 2 0 0
    ++ row 66 2 0 0 0 0 0 0 0 0
    ++ row 5 2 0 0 0 0 1 0 0 0
    ++ row 2 0 0 0 0 0 5 3 0 0
    ++ row 1 0 0 0 0 0 5 3 0 0))
    ∷ []

-- 01, "Plausible slips": whole states instead of partial ones, formulas compared without offsets (and not where offsets are equal), inherited values
-- set again after a pop, larger lookaheads called wrong; and reaching taken for FIRST
unfoldable pub slips : List Case
slips =
    case two-lookaheads (2 ∷ 9 ∷ [])
    (accepted 3
    (row 3 0 2 0 0 0 2 0 0 0
    ++ row 66 0 0 0 0 0 9 0 0 0
    ++ row 2 0 0 0 0 0 2 0 0 0))
    ∷ case two-offsets [] (book_refused 10)
    ∷ case (change 7 "(inhdef 1 3 i0 (val 2))" two-offsets) [] (message_refused 15)
    ∷ case set-once message
    (accepted 6
    (row 65 0 0 0 0 0 100 0 0 0
    ++ row 66 1 0 0 0 0 5 0 0 0
    ++ row 66 2 0 0 0 0 7 0 0 0
    ++ row 2 2 105 0 0 0 112 0 0 0
    ++ row 3 1 100 0 0 0 112 0 0 0
    ++ row 1 0 0 0 0 0 112 0 0 0))
    ∷ case (change 17 "(kernel 4 1 2 t0 t1)" S) message (accepted 7 S-rows)
    ∷ case dead_end (1 ∷ 7 ∷ 2 ∷ 9 ∷ [])
    (accepted 4
    (row 65 0 0 0 0 0 7 0 0 0
    ++ row 3 0 2 0 0 0 2 0 0 0
    ++ row 66 1 0 0 0 0 9 0 0 0
    ++ row 2 0 0 0 0 0 0 0 0 0))
    ∷ []

unfoldable pub table : List Case
table = starred ++ slips

-- The test

-- the refusal of the text, and the calls' answer, computed without the words of the book
pub record Answer : Type 0 where
  pub refusal : ℕ
  pub evaluation : Evaluation

unfoldable pub answer : List ℕ → List ℕ → Answer
answer text tokens =
    elim (parse_book text) [
      | none ↦ record { refusal = 2; evaluation = turned_back 2 PAGE_WORDS }
      | some b ↦
          elim (book_refusal b) [
            | zero ↦ record { refusal = 0; evaluation = evaluate_book b tokens PAGE_WORDS }
            | suc n ↦ record { refusal = suc n; evaluation = turned_back (suc n) PAGE_WORDS }
          ]
    ]

-- the refusal of the text is as expected; its words follow
unfoldable pub same_refusal : ℕ → Expected → Bool
same_refusal r (book_refused zero) = false
same_refusal r (book_refused (suc n)) = eqb r (suc n)
same_refusal r (message_refused n) = eqb r 0
same_refusal r (accepted count words) = eqb r 0

unfoldable pub same_evaluation : Evaluation → Evaluation → Bool
same_evaluation x y = eqb x.number y.number && (eqb x.count y.count && same_sets x.rows y.rows)

unfoldable pub same_answer : Answer → Expected → Bool
same_answer a e = same_refusal a.refusal e && same_evaluation a.evaluation (expected_evaluation e)

unfoldable pub holds_of : Case → Bool
holds_of c =
    let text : List ℕ = unlines c.lines in
    leb (length text) MAX_TEXT && same_answer (answer text c.tokens) c.expected

unfoldable pub holds : List Case → Bool
holds [] = true
holds (c ∷ cs) = elim (holds_of c) [ true ↦ holds cs | false ↦ false ]

-- opens every definition of this module
unfoldable pub opens : Unit {0}
unfolding after_reading calls expected_reading expected_evaluation starred slips table answer same_refusal same_evaluation same_answer holds_of holds
opens = tt
