use Prim.Native.Nat.{ℕ, ◌+◌, ◌-◌}
use mathlib.Core.Bool.{Bool}
use mathlib.Core.List.{List}
use Rattle.grammar.specs.Data.Book.{Book}
use Rattle.plans.specs.Programs.{CheckOver}
use Rattle.plans.specs.Planning.{Planning}
use Rattle.plans.specs.PlanRows.{Elsewhere}
use Rattle.plans.specs.LinesWalk.{Walking}
use Rattle.plans.proofs.planning.half.Given as goal

abbrev pub invariant-loop-rest : goal.invariant-loop-rest
invariant-loop-rest l = Elsewhere l.from (l.from + 16) l.initial.row l.row × ((b : Book) (member : ℕ → ℕ → Bool) (masks : List ℕ) (s : Planning) → CheckOver b l.program masks
    → Walking b member (l.base + 64) l.bits l.base s l.initial.row l.from l.initial.p.known l.initial.p.count
    → Walking b member (l.base + 64) l.rest l.line s l.row l.from l.p.known l.p.count)

abbrev pub decreases-loop-rest : goal.decreases-loop-rest
decreases-loop-rest l = 128 - l.line
