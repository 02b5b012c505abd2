use Prim.Native.Nat.{◌-◌}
use mathlib.Core.Path.{◌≡◌}
use mathlib.Core.Bool.{Bool}
use mathlib.Core.List.{List}
use Rattle.grammar.specs.Data.Book.{Book}
use Rattle.grammar.specs.Formulas.Slots.{Slots}
use Rattle.grammar.specs.Formulas.FormulaCheck as grammar
use Rattle.grammar.specs.Formulas.FormulaCheck.{progress}
use Rattle.agreement.specs.Over.{CheckOver, ProgressOver, RoomKept}
use Rattle.attributes.specs.Checking.{member_in}
use Rattle.agreement.specs.PassesLaws.{Passing}
use Rattle.agreement.proofs.check.passes.Given as goal

abbrev pub invariant-loop-next : goal.invariant-loop-next
invariant-loop-next l = RoomKept l.initial.work l.work
    × ((b : Book) (s : Slots) (d : List Bool) → CheckOver b l.parts → l.parts.lines ≡ grammar.definitions b
    → ProgressOver s d l.initial.work l.initial.p
    → Passing b (member_in l.parts.masks.now l.wanted) (progress s d) l.work.slots l.work.done l.work.nodes.rows.now l.work.nodes.heads.now l.work.nodes.nexts.now l.p)

abbrev pub decreases-loop-next : goal.decreases-loop-next
decreases-loop-next l = 128 - l.p.count
