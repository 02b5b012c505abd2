use Rattle.plans.specs.Places.{front-more}
use Rattle.plans.proofs.members.front_free.Goals as goal

pub loop-i-preserved : goal.loop-i-preserved
loop-i-preserved c = front-more c.loop-i.invariant
