use Rattle.conditions.specs.Often.{tallied-start, tallied-end}
use Rattle.conditions.proofs.limits.few.Goals as goal

pub loop-i-init : goal.loop-i-init
loop-i-init c = tallied-start

pub returns : goal.returns
returns c = tallied-end c.loop-i.invariant c.loop-i-test.false
