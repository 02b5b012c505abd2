-- Reading expressions of any depth (01, "Spelling of a book"), by a loop that keeps the operators that wait for operands and gives the
-- expression's steps in postfix order, one at each closing bracket and each number. Assumes nothing.
use Rattle.std.specs.Prelude.{ℕ, zero, suc, Bool, true, false, List, [], ◌∷◌, ◌++◌, eqb}
use Rattle.text.specs.Class.{open-bracket, close-bracket, space}
use Rattle.text.specs.Rest.{Rest, lost, found, mark, size}
use Rattle.text.specs.Numeral.{decimal, letters, value, past, word_of, keyword}
use Rattle.grammar.specs.Data.Term.{add, sub, min, max}
use Rattle.grammar.specs.Data.Book.{Place, own, at, val, Expr}
use Rattle.grammar.specs.Data.Postfix.{Step, push, load, operate, select, term_of}
use Rattle.grammar.specs.Format.Reader.{Parsed, parsed, result, remaining, Reader, pure, ◌>>=◌, ◌>>◌, decimal_number, naming}
use Rattle.grammar.specs.Format.Repeat.{repeat}

-- an operator whose bracket is open: the step that closes it, and how many operands follow the one being read
pub data Waiting : Type 0 where
  waiting : Step Place → ℕ → Waiting

-- how an expression begins: an operator's bracket, or all of it, one step
pub data Begun : Type 0 where
  opened : Waiting → Rest → Begun
  whole : Step Place → Rest → Begun

abbrev pub either : {A : Type 0} → Bool → A → A → A
either true x y = x
either false x y = y

-- the places, after their word and the space
unfoldable pub own_place : Reader (Step Place)
own_place = do
  keyword (word_of "i")
  K ← decimal_number
  mark close-bracket
  pure (load (own K))

unfoldable pub at_place : Reader (Step Place)
at_place = do
  J ← decimal_number
  naming (word_of "s")
  K ← decimal_number
  mark close-bracket
  pure (load (at J K))

unfoldable pub val_place : Reader (Step Place)
val_place = do
  J ← decimal_number
  mark close-bracket
  pure (load (val J))

unfoldable pub whole_of : Parsed (Step Place) → Begun
whole_of p = whole (result p) (remaining p)

-- a bracket, by its word
unfoldable pub bracket : ℕ → Rest → Begun
bracket word o =
    either (eqb word (word_of "add")) (opened (waiting (operate add) 1) o)
    (either (eqb word (word_of "sub")) (opened (waiting (operate sub) 1) o)
    (either (eqb word (word_of "min")) (opened (waiting (operate min) 1) o)
    (either (eqb word (word_of "max")) (opened (waiting (operate max) 1) o)
    (either (eqb word (word_of "pick")) (opened (waiting select 2) o)
    (either (eqb word (word_of "own")) (whole_of (own_place o))
    (either (eqb word (word_of "at")) (whole_of (at_place o))
    (either (eqb word (word_of "val")) (whole_of (val_place o))
    (whole select lost))))))))

unfoldable pub begun : Rest → Begun
begun o =
    elim (found (mark open-bracket o)) [
      | true ↦ bracket (value letters (mark open-bracket o)) (mark space (past letters (mark open-bracket o)))
      | false ↦ whole (push (value decimal o)) (past decimal o)
    ]

-- whether an expression is due, what is left, the operators that wait, the steps so far
pub data Scan : Type 0 where
  scan : Bool → Rest → List Waiting → List (Step Place) → Scan

unfoldable pub size_scan : Scan → ℕ
size_scan (scan due o waits steps) = size o

-- the loop stops where the text is lost and where nothing is due and nothing waits
unfoldable pub scan_more : Scan → Bool
scan_more (scan true o waits steps) = found o
scan_more (scan false o [] steps) = false
scan_more (scan false o (w ∷ waits) steps) = found o

unfoldable pub begin : Begun → List Waiting → List (Step Place) → Scan
begin (opened w o) waits steps = scan true o (w ∷ waits) steps
begin (whole s o) waits steps = scan false o waits (steps ++ (s ∷ []))

unfoldable pub scan_turn : Scan → Scan
scan_turn (scan true o waits steps) = begin (begun o) waits steps
scan_turn (scan false o [] steps) = scan false o [] steps
scan_turn (scan false o (waiting s zero ∷ waits) steps) = scan false (mark close-bracket o) waits (steps ++ (s ∷ []))
scan_turn (scan false o (waiting s (suc n) ∷ waits) steps) = scan true (mark space o) (waiting s n ∷ waits) steps

unfoldable pub scan_all : Scan → Scan
scan_all m = repeat scan_more scan_turn size_scan m

unfoldable pub outcome : Scan → Parsed (List (Step Place))
outcome (scan due o waits steps) = parsed steps o

unfoldable pub expression_steps : Reader (List (Step Place))
expression_steps o = outcome (scan_all (scan true o [] []))

unfoldable pub expression : Reader Expr
expression = do
  steps ← expression_steps
  pure (term_of steps)

-- opens every definition of this module
unfoldable pub opens : Unit {0}
unfolding own_place at_place val_place whole_of bracket begun size_scan scan_more begin scan_turn scan_all outcome expression_steps expression
opens = tt
