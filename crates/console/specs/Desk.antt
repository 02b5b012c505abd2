-- The desk program (01, "S, run by the desk program"), as a function from the bytes of standard input to the bytes of standard output.
-- proofs/Meaning.antt says what it gives for an input that is spelled right, proofs/Cases.antt computes 01's example. Assumes nothing.
use Rattle.std.specs.Prelude.{ℕ, zero, suc, Bool, true, false, List, [], ◌∷◌, ◌++◌, leb, eqb, length, take, drop}
use Rattle.std.proofs.Math.Option.{Option, none, some}
use Rattle.text.specs.Class.{space}
use Rattle.text.specs.Rest.{lost, left, mark}
use Rattle.text.specs.Numeral.{word_of}
use Rattle.grammar.specs.Limits.{MAX_TEXT, ROW_WORDS}
use Rattle.grammar.specs.Automaton.Fixpoint.{same_sets}
use Rattle.grammar.specs.Format.Printer.{Printer, ◌·◌, bytes, literal, numeral, each}
use Rattle.grammar.specs.Format.Reader.{Parsed, parsed, Reader, pure, ◌>>=◌, ◌>>◌, decimal_number, opening, closing}
use Rattle.grammar.specs.Engine.{Evaluation}
use Rattle.grammar.specs.Cases.Cases.{calls}

-- The lines of the input

-- "The book ends with its first end line"
unfoldable pub is_end : List ℕ → Bool
is_end line = same_sets line (bytes "(end)\n")

-- "then `(tok kind value)` lines": the kind and the value
unfoldable pub token_line : Reader (List ℕ)
token_line = do
  opening (word_of "tok")
  kind ← decimal_number
  mark space
  value ← decimal_number
  closing
  pure (kind ∷ value ∷ [])

-- what a line spells, if nothing stands after it
unfoldable pub spelled_by : Parsed (List ℕ) → Option (List ℕ)
spelled_by (parsed numbers lost) = none
spelled_by (parsed numbers (left [])) = some numbers
spelled_by (parsed numbers (left (b ∷ bs))) = none

unfoldable pub token_of : List ℕ → Option (List ℕ)
token_of line = spelled_by (token_line (left line))

-- "It reads a book, then `(tok kind value)` lines": the book's text while its end line is to come; then the book's text and the tokens' numbers, none
-- where a line was misspelt
pub data Lines : Type 0 where
  before_end : List ℕ → Lines
  after_end : List ℕ → Option (List ℕ) → Lines

-- none where one is none
unfoldable pub joined : Option (List ℕ) → Option (List ℕ) → Option (List ℕ)
joined none o = none
joined (some xs) none = none
joined (some xs) (some ys) = some (xs ++ ys)

unfoldable pub one_line : Lines → List ℕ → Lines
one_line (before_end text) line = elim (is_end line) [ true ↦ after_end (text ++ line) (some []) | false ↦ before_end (text ++ line) ]
one_line (after_end text numbers) line = after_end text (joined numbers (token_of line))

-- the whole lines so far, and the line at hand
pub data Input : Type 0 where
  so_far : Lines → List ℕ → Input

-- "each ended by a line feed"
unfoldable pub one_byte : Input → ℕ → Input
one_byte (so_far lines line) b =
    elim (eqb b 10) [ true ↦ so_far (one_line lines (line ++ (b ∷ []))) [] | false ↦ so_far lines (line ++ (b ∷ [])) ]

unfoldable pub all_bytes : Input → List ℕ → Input
all_bytes i [] = i
all_bytes i (b ∷ bs) = all_bytes (one_byte i b) bs

abbrev pub nothing_read : Input
nothing_read = so_far (before_end []) []

-- The answer

pub data Answer : Type 0 where
  refused : ℕ → Answer
  accepted : ℕ → List ℕ → Answer

-- of a refusal or 0, a row count and the rows' words
unfoldable pub answer_of : ℕ → ℕ → List ℕ → Answer
answer_of zero count rows = accepted count rows
answer_of (suc n) count rows = refused (suc n)

abbrev pub evaluated : Evaluation → Answer
evaluated e = answer_of e.number e.count e.rows

-- of a book's text and the tokens' numbers: 1 before all others, "misspelt: 2, before every number but 1", then what reading and evaluating say
-- ("more than 255: 13" is theirs)
unfoldable pub answer : List ℕ → Option (List ℕ) → Answer
answer text tokens =
    elim (leb (length text) MAX_TEXT) [
      | false ↦ refused 1
      | true ↦ elim tokens [ none ↦ refused 2 | some numbers ↦ evaluated (calls text numbers) ]
    ]

-- "without one, all the input is book text"; a token line that is not ended is misspelt
unfoldable pub answer_to : Input → Answer
answer_to (so_far (before_end text) line) = answer (text ++ line) (some [])
answer_to (so_far (after_end text numbers) []) = answer text numbers
answer_to (so_far (after_end text numbers) (b ∷ line)) = answer text none

-- The output: "prints row words in order, then the count (or `(refused n)` alone)"

unfoldable pub print_word : ℕ → Printer
print_word w = literal " " · numeral w

unfoldable pub print_row : List ℕ → Printer
print_row words = literal "(row" · each print_word words · literal ")\n"

-- the first rows of a page
unfoldable pub print_rows : ℕ → List ℕ → Printer
print_rows zero page r = r
print_rows (suc n) page r = print_row (take ROW_WORDS page) (print_rows n (drop ROW_WORDS page) r)

unfoldable pub print_answer : Answer → Printer
print_answer (refused n) = literal "(refused " · numeral n · literal ")\n"
print_answer (accepted count rows) = print_rows count rows · literal "(accepted " · numeral count · literal ")\n"

unfoldable pub desk_output : List ℕ → List ℕ
desk_output input = print_answer (answer_to (all_bytes nothing_read input)) []

-- opens every definition of this module
unfoldable pub opens : Unit {0}
unfolding is_end token_line spelled_by token_of joined one_line one_byte all_bytes answer_of answer answer_to print_word print_row print_rows print_answer desk_output
opens = tt
