use Prim.Native.Nat.{ℕ}
use mathlib.Core.Path.{◌≡◌}
use mathlib.Core.Bool.{true}
use mathlib.Core.List.{List}
use Rattle.grammar.specs.Conditions.Decides.{all_below}
use Rattle.grammar.specs.Data.Book.{Book}
use Rattle.agreement.specs.OneFormula.{state_right}
use Rattle.agreement.specs.Over.{FrontsOver, OwnedOver, GivenOver, RoomKept}
use Rattle.agreement.proofs.one_formula.states_right.Given as goal

abbrev pub invariant-loop-state : goal.invariant-loop-state
invariant-loop-state l = RoomKept l.initial.work l.work
    × ((b : Book) (begins : List ℕ)
    → FrontsOver b begins l.all
    → OwnedOver b l.all → GivenOver b l.all
    → all_below l.state (state_right b) ≡ true)
