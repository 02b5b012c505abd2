use Prim.Native.Nat.{◌+◌, ◌<◌}
use native.Mathlib.Omega.{arith}
use Rattle.plans.specs.PlanRowsLaws.{elsewhere-then}
use Rattle.plans.specs.LinesWalk.{walk-there, walk-own, walk-next, walk_turn, walk_end}
use Rattle.plans.proofs.planning.half.Goals as goal
use Rattle.plans.proofs.planning.half.Goals.{After-least-gap}

-- the next line is a definition
there : (c : After-least-gap) → c.loop-rest.line + c.least-gap.result < 128
there c = let (b, member, masks, s, H, W) = c.requires in
    omega (arith, walk-there (c.loop-rest.invariant.1 b member masks s H W) c.least-gap.ensures, H.premises.definitions_limit)

pub overflow_add-line : goal.overflow_add-line
overflow_add-line c =
    omega (arith, (there (goal.at.overflow_add-line c).After-least-gap))

pub visit-p-requires : goal.visit-p-requires
visit-p-requires c = let (b, member, masks, s, H, W) = c.requires in
    let X = c.loop-rest.invariant.1 b member masks s H W in
    (b, member, masks, _, H, walk-there X c.least-gap.ensures, walk-own X c.least-gap.ensures, walk-next X c.least-gap.ensures)

pub overflow_add-line-in-loop-rest : goal.overflow_add-line-in-loop-rest
overflow_add-line-in-loop-rest c =
    omega (arith, (there (goal.at.overflow_add-line-in-loop-rest c).After-least-gap))

pub loop-rest-smaller : goal.loop-rest-smaller
loop-rest-smaller c =
    omega (arith, (there (goal.at.loop-rest-smaller c).After-least-gap))

pub loop-rest-preserved : goal.loop-rest-preserved
loop-rest-preserved c = (
  elsewhere-then c.loop-rest.invariant.0 c.visit-p.ensures.1,
  λ b member masks s H W.
      let X = c.loop-rest.invariant.1 b member masks s H W in
      walk_turn X c.least-gap.ensures c.behind-rest.ensures
      (c.visit-p.ensures.0 b member masks _ H (walk-there X c.least-gap.ensures) (walk-own X c.least-gap.ensures) (walk-next X c.least-gap.ensures)),
)

pub returns : goal.returns
returns c = let at = c.loop-rest in
    (λ b member masks s H W. walk_end (at.invariant.1 b member masks s H W) c.loop-rest-test.false, at.invariant.0)
