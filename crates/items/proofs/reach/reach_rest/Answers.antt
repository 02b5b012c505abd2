use Rattle.items.specs.ReachLoops.{reach-none, reach-more}
use Rattle.items.proofs.reach.reach_rest.Goals as goal

pub returns-then-d-size : goal.returns-then-d-size
returns-then-d-size c = λ F n R. reach-none F _ _ _ c.size.ensures c.if-d-size.true

pub returns : goal.returns
returns c = λ F n R.
    reach-more F _ _ _ c.size.ensures c.requires.rule_fits.1 c.if-d-size.false
    c.symbol.ensures R (λ β S. c.reach_step.ensures F β n S)
