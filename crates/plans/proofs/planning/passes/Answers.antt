use mathlib.Core.Path.{◌≡◌}
use native.Mathlib.Omega.{arith}
use Rattle.plans.specs.PlanRowsLaws.{elsewhere-then}
use Rattle.plans.specs.PassLaws.{passing-turn, passing-further, passing-end, few-lines}
use Rattle.plans.proofs.planning.passes.Goals as goal

pub pass-p-requires : goal.pass-p-requires
pass-p-requires c = let (b, member, masks, s, H, L, R) = c.requires in
    let P = c.loop-p.invariant.1 b member masks s H L R in
    (b, member, masks, P.now_at, H, L, P.holds)

pub returns-then-p-before : goal.returns-then-p-before
returns-then-p-before c = (
  λ b member masks s H L R.
      let P = c.loop-p.invariant.1 b member masks s H L R in
      passing-end b member P (c.pass-p.ensures.0 b member masks P.now_at H L P.holds) c.if-p-before.true,
  elsewhere-then c.loop-p.invariant.0 c.pass-p.ensures.1,
)

pub loop-p-smaller : goal.loop-p-smaller
loop-p-smaller c = let (b, member, masks, s, H, L, R) = c.requires in
    let P = c.loop-p.invariant.1 b member masks s H L R in
    let Q = c.pass-p.ensures.0 b member masks P.now_at H L P.holds in
    let more = passing-further b member P Q in
    let few = few-lines b member (passing-turn b member P Q) in
    let other : c.pass-p.result.count ≡ c.loop-p.p.count → ⊥ = c.if-p-before.false in
    omega (arith, more, few, other)

pub loop-p-preserved : goal.loop-p-preserved
loop-p-preserved c = (
  elsewhere-then c.loop-p.invariant.0 c.pass-p.ensures.1,
  λ b member masks s H L R.
      let P = c.loop-p.invariant.1 b member masks s H L R in
      passing-turn b member P (c.pass-p.ensures.0 b member masks P.now_at H L P.holds),
)
