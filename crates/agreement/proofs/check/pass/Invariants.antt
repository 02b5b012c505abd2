use Prim.Native.Nat.{◌-◌, ◌≤◌}
use mathlib.Core.Path.{◌≡◌}
use mathlib.Core.Bool.{Bool}
use mathlib.Core.List.{List}
use Rattle.std.specs.Prelude.{Some}
use Rattle.grammar.specs.Data.Book.{Book}
use Rattle.grammar.specs.Formulas.Slots.{Slots}
use Rattle.grammar.specs.Formulas.Passes.{visits}
use Rattle.grammar.specs.Formulas.FormulaCheck as grammar
use Rattle.grammar.specs.Formulas.FormulaCheck.{progress, visit}
use Rattle.agreement.specs.Over.{CheckOver, ProgressOver, ReachedOver, RoomKept}
use Rattle.attributes.specs.Checking.{member_in}
use Rattle.agreement.proofs.check.pass.Given as goal

abbrev pub invariant-loop-i : goal.invariant-loop-i
invariant-loop-i l = (l.i ≤ l.parts.lines)
    × RoomKept l.initial.work l.work
    × ((b : Book) (s : Slots) (d : List Bool) → CheckOver b l.parts → l.parts.lines ≡ grammar.definitions b
    → ProgressOver s d l.initial.work l.initial.p
    → ReachedOver l.work (Some l.p) (visits (visit b (member_in l.parts.masks.now l.wanted)) l.i (progress s d)))

abbrev pub decreases-loop-i : goal.decreases-loop-i
decreases-loop-i l = l.parts.lines - l.i
