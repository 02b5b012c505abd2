-- 01's example, S with three tokens, and small inputs that tell the first end line from a later one and a misspelt token from a refused book.
-- Assumes nothing.
use Rattle.std.specs.Prelude.{◌≡◌, refl, List, [], ◌∷◌, ◌++◌, map, replicate}
use Rattle.std.proofs.Common.{ap}
use mathlib.Core.List.Memᴰ
use Prim.Native.String.{String}
use Rattle.text.specs.Class.{opens as opens-class}
use Rattle.text.specs.Rest.{opens as opens-rest}
use Rattle.text.specs.Numeral.{opens as opens-numeral}
use Rattle.grammar.specs.Automaton.Fixpoint.{opens as opens-fixpoint}
use Rattle.grammar.specs.Format.Printer.{bytes, opens as opens-printer}
use Rattle.grammar.specs.Format.Reader.{opens as opens-reader}
use Rattle.grammar.specs.Cases.CaseBooks.{unlines, change, S, opens as opens-books}
use Rattle.grammar.specs.Cases.Cases.{calls, accepted, expected_evaluation, case, message, S-rows, starred, table}
use Rattle.grammar.proofs.Cases.CasesProof.{cases}
use Rattle.console.specs.Desk.{evaluated, print_answer, desk_output}
use Rattle.console.specs.Desk.{opens as opens-desk}

-- opens all that reading lines and printing rows compute with
unfoldable opens : Unit {0}
unfolding opens-class opens-rest opens-numeral opens-fixpoint opens-printer opens-reader opens-books opens-desk
opens = tt

abbrev S-input : List String
S-input = S ++ ("(tok 1 100)" ∷ "(tok 2 5)" ∷ "(tok 2 7)" ∷ [])

-- what 01 shows for it
abbrev S-output : List String
S-output =
    "(row 65 0 0 0 0 0 100 0 0 0)"
    ∷ "(row 66 1 0 0 0 0 5 0 0 0)"
    ∷ "(row 66 2 0 0 0 0 7 0 0 0)"
    ∷ "(row 2 3 112 0 0 0 112 0 0 0)"
    ∷ "(row 3 2 105 0 0 0 112 0 0 0)"
    ∷ "(row 3 1 100 0 0 0 112 0 0 0)"
    ∷ "(row 1 0 0 0 0 0 112 0 0 0)"
    ∷ "(accepted 7)"
    ∷ []

S-called : calls (unlines S) message ≡ expected_evaluation (accepted 7 S-rows)
unfolding table starred
S-called = (cases (case S message (accepted 7 S-rows))
    (Memᴰ.tail (Memᴰ.tail (Memᴰ.tail (Memᴰ.tail (Memᴰ.tail (Memᴰ.tail
    (Memᴰ.tail (Memᴰ.tail (Memᴰ.tail (Memᴰ.tail (Memᴰ.tail (Memᴰ.tail (Memᴰ.head refl)))))))))))))).message_is

pub S-printed : desk_output (unlines S-input) ≡ unlines S-output
unfolding opens expected_evaluation
S-printed = ap (λ e. print_answer (evaluated e) []) S-called

-- token lines that are misspelt: a leading zero, a number too large, two spaces, no value, an empty line, a second end line, after a taken book and
-- after one that is refused by a higher number
abbrev misspelt : List (List String)
misspelt =
    (S ++ ("(tok 01 100)" ∷ []))
    ∷ (S ++ ("(tok 1 4294967296)" ∷ []))
    ∷ (S ++ ("(tok 1  100)" ∷ []))
    ∷ (S ++ ("(tok 1)" ∷ []))
    ∷ (S ++ ("(tok 1 100)" ∷ "" ∷ []))
    ∷ (S ++ ("(end)" ∷ []))
    ∷ (change 0 "(book 32 2 6)" S ++ ("(tok 1)" ∷ []))
    ∷ []

pub misspelt-refused : map (λ lines. desk_output (unlines lines)) misspelt ≡ replicate 7 (unlines ("(refused 2)" ∷ []))
unfolding opens
misspelt-refused = refl

-- a token line that is not ended
pub unended-refused : desk_output (unlines S ++ bytes "(tok 1 100)") ≡ unlines ("(refused 2)" ∷ [])
unfolding opens
unended-refused = refl
