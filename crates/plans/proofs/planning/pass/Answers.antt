use Rattle.plans.specs.PlanRowsLaws.{elsewhere-then}
use Rattle.plans.specs.LinesWalk.{walk-lower, walk-upper, walk-all}
use Rattle.plans.proofs.planning.pass.Goals as goal

pub half-q-requires : goal.half-q-requires
half-q-requires c =
    let (b, member, masks, s, H, L, R) = c.requires in
    (b, member, masks, s, H, walk-lower L s (c.type_inv.found 0).fits R)

pub half-requires : goal.half-requires
half-requires c =
    let (b, member, masks, s, H, L, R) = c.requires in
    (b, member, masks, s, H, walk-upper L s (c.type_inv.found 1).fits (c.half-q.ensures.0 b member masks s H (walk-lower L s (c.type_inv.found 0).fits R)))

pub returns : goal.returns
returns c = (
  λ b member masks s H L R.
      walk-all b member s H.premises.definitions_limit
      (c.half.ensures.0 b member masks s H
      (walk-upper L s (c.type_inv.found 1).fits (c.half-q.ensures.0 b member masks s H (walk-lower L s (c.type_inv.found 0).fits R)))),
  elsewhere-then c.half-q.ensures.1 c.half.ensures.1,
)
