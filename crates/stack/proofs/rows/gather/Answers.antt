use Rattle.stack.specs.Lists.{gather-turn, gather-end}
use Rattle.stack.proofs.rows.gather.Goals as goal

pub loop-i-preserved : goal.loop-i-preserved
loop-i-preserved c = gather-turn c.requires.0 c.word-count.ensures c.loop-i-test.true c.word-number.ensures c.loop-i.invariant

pub returns : goal.returns
returns c = gather-end c.requires.0 c.word-count.ensures c.loop-i-test.false c.loop-i.invariant
