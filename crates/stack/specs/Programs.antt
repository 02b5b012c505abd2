-- A book that is taken in the arrays of a program, and a configuration of its machine in the stacks and the rows. Assumes nothing.
use Rattle.std.specs.Prelude.{ℕ, ◌+◌, ◌*◌, ◌≡◌, List, length}
use Rattle.std.proofs.Common.{arith}
use Rattle.grammar.specs.Limits.{PAGE_WORDS}
use Rattle.grammar.specs.Data.Book.{Book}
use Rattle.grammar.specs.Evaluator.Tree.{Token}
use Rattle.grammar.specs.Evaluator.Machine.{Config}
use Rattle.plans.specs.declared.program.Program.{Program}
use Rattle.stack.specs.declared.stacks.Stacks.{Stacks}
use Rattle.stack.specs.declared.top.Top.{Top}
use Rattle.stack.specs.LeftMove.{LeftAsked}
use Rattle.stack.specs.Pushes as pushes
use Rattle.stack.specs.Standing.{BookIn, LeftIn, GoesOn}

-- what every move reads, and what a reduce reads of left sides
abbrev pub BookOver : Book → Program → Type 0
BookOver b p = BookIn b p.rules.now p.definitions.now p.table.now

abbrev pub LeftOver : Book → Program → Type 0
LeftOver b p = LeftIn b p.definitions.now p.spans.now p.down.now p.up.now

-- room in the stacks and the rows, as laws over lists ask for it
abbrev pub RoomOver : Stacks → List ℕ → Type 0
RoomOver s rows = pushes.Stacks s.states s.records s.starts rows × (length s.cells ≡ 16 * length s.starts + 16)

-- their types tell it
pub room-over : (s : Stacks) {rows : List ℕ} → length s.states ≡ 129 → length s.cells ≡ 2064 → length s.records ≡ 4224 → length s.starts ≡ 128
    → length rows ≡ PAGE_WORDS → RoomOver s rows
room-over s a b c d e =
    (record { starts_long = d; states_long = omega arith; synthesized_long = omega arith; rows_long = e }, omega arith)

-- a reduce of rule P is due, and there is room for its row and its left side
abbrev pub LeftAskedOver : Book → List Token → Config → Program → Stacks → List ℕ → Top → ℕ → Type 0
LeftAskedOver b ks c p s rows top P =
    LeftAsked b ks c p.rules.now p.definitions.now p.table.now p.spans.now p.down.now p.up.now s.states s.cells s.records s.starts rows top P

-- a move goes on to a configuration that the stacks hold
abbrev pub GoesOver : Book → List Token → Config → Stacks → List ℕ → Top → Type 0
GoesOver b ks c s rows top = GoesOn b ks c s.states s.cells s.records s.starts rows top
