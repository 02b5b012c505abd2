use Rattle.plans.specs.Planning.{unplanned}
use Rattle.plans.specs.PassLaws.{begun, ended}
use Rattle.plans.proofs.planning.plan.Goals as goal

pub passes-requires : goal.passes-requires
passes-requires c = let g = c.requires in
    let (b, member, masks, H, L) = g.0 in
    (b, member, masks, unplanned, H, L, begun b member g.1)

pub returns : goal.returns
returns c = let room = c.requires.1 in
    (λ b member masks H L. ended b member (c.passes.ensures.0 b member masks unplanned H L (begun b member room)), c.passes.ensures.1)
