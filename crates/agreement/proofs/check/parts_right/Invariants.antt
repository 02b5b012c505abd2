use mathlib.Core.Path.{◌≡◌}
use mathlib.Core.Bool.{true}
use Rattle.grammar.specs.Conditions.Decides.{all_below}
use Rattle.grammar.specs.Data.Book.{Book}
use Rattle.grammar.specs.Formulas.FormulaCheck as grammar
use Rattle.agreement.specs.Over.{CheckOver, RoomKept}
use Rattle.attributes.specs.Checking.{member_of}
use Rattle.agreement.specs.Alike.{Right}
use Rattle.agreement.proofs.check.parts_right.Given as goal

abbrev pub invariant-loop-a : goal.invariant-loop-a
invariant-loop-a l = RoomKept l.initial.work l.work
    × ((b : Book) → CheckOver b l.parts → l.parts.lines ≡ grammar.definitions b
    → (all_below l.a (λ c. grammar.check b (member_of l.parts.masks.now c)) ≡ true) × Right b l.parts.masks.now l.right)
