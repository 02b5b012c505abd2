use borrow.Author.Rules.{rules}
use Rattle.items.specs.KernelLines.{state-words}
use Rattle.items.specs.Closures.{part_none, closed-more}
use Rattle.items.proofs.closures.state_closures.Goals as goal

pub closure-requires : goal.closure-requires
closure-requires c = let g = c.requires.0 in
    let loop = c.loop-s in
    let h = c.loop-s-test.true in
    let here = state-words g.2.bounds_in loop.s h c.word-from.ensures c.word-to.ensures in
    let leads = c.requires.1 in
    ((g.0, g.1, g.2.items_in, g.2.counted, here.within), leads, part_none loop.invariant h g.2.few)

pub loop-s-preserved : goal.loop-s-preserved
loop-s-preserved c = let g = c.requires.0 in
    let loop = c.loop-s in
    let h = c.loop-s-test.true in
    closed-more loop.invariant _
    (λ b F H. c.closure.ensures b F loop.s H.items_in H.counted
    (state-words H.bounds_in loop.s h c.word-from.ensures c.word-to.ensures))
    h g.2.few (search rules)
