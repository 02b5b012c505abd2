use Rattle.items.specs.SuffixLoops.{suffixes-end, living-end}
use Rattle.items.proofs.suffixes.suffixes.Goals as goal

pub returns : goal.returns
returns c = let inv = c.loop-p.invariant in
    let pre = c.requires in
    (suffixes-end inv c.loop-p-test.false pre.count_in_bounds.0 pre.count_in_bounds.1, living-end inv c.loop-p-test.false)
