use Rattle.stack.specs.Spans.{starting-more, lines-sorted, lines-room}
use Rattle.stack.proofs.spans.fill_spans.Goals as goal

pub loop-p-preserved : goal.loop-p-preserved
loop-p-preserved c = let L = c.requires.0.1 in
    starting-more (lines-sorted L) (lines-room L).2 c.loop-p.invariant c.loop-p-test.true c.past-at.ensures
