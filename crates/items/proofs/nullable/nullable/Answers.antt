use Rattle.items.specs.NullableLoops.{null-turn, null-less, null-ends}
use Rattle.items.proofs.nullable.nullable.Goals as goal

pub loop-next-smaller : goal.loop-next-smaller
loop-next-smaller c = null-less c.requires c.loop-next.invariant c.loop-next-test.true

pub loop-next-preserved : goal.loop-next-preserved
loop-next-preserved c = null-turn c.requires c.loop-next.invariant c.loop-next-test.true c.null_pass-next-in-loop-next.ensures

pub returns : goal.returns
returns c = null-ends c.requires c.loop-next.invariant c.loop-next-test.false
