use Prim.Native.Nat.{ℕ, ◌+◌, ◌-◌}
use mathlib.Core.Bool.{Bool}
use mathlib.Core.List.{List}
use Rattle.grammar.specs.Limits.{MAX_INHERITED}
use Rattle.grammar.specs.Data.Book.{Book}
use Rattle.plans.specs.Programs.{CheckOver}
use Rattle.plans.specs.Planning.{Planning}
use Rattle.plans.specs.PlanRows.{PlanningIn, Elsewhere}
use Rattle.plans.specs.Lines.{LinesIn}
use Rattle.plans.specs.PassLaws.{Passing}
use Rattle.plans.proofs.planning.passes.Given as goal

abbrev pub invariant-loop-p : goal.invariant-loop-p
invariant-loop-p l = Elsewhere l.from (l.from + 16) l.initial.row l.row × ((b : Book) (member : ℕ → ℕ → Bool) (masks : List ℕ) (s : Planning) → CheckOver b l.program masks
    → LinesIn b member l.found → PlanningIn b member s l.initial.row l.from l.initial.p.known l.initial.p.count → Passing b member s l.row l.from l.p.known l.p.count)

abbrev pub decreases-loop-p : goal.decreases-loop-p
decreases-loop-p l = MAX_INHERITED - l.p.count
