use Rattle.agreement.specs.Apart.{apart_more}
use Rattle.agreement.proofs.single.lines_apart.Goals as goal

pub loop-i-preserved : goal.loop-i-preserved
loop-i-preserved c = let at = c.loop-i in
    rw c.line_gives-more.ensures (apart_more _ at.auto.i at.invariant (rw c.line_gives-more.ensures at c.if-bits-more-ne0.false))
