use Rattle.items.specs.ReachLoops.{nulls-of, rests_in, rests-there, reaches-done}
use Rattle.items.specs.Filling.{rests-turn}
use Rattle.items.proofs.reach.fill_reaches.Goals as goal

pub reach_rests-requires-clause-p_in_bounds : goal.reach_rests-requires-clause-p_in_bounds
reach_rests-requires-clause-p_in_bounds c = rests-there c.requires.0 c.loop-p.p c.loop-p-test.true

pub loop-p-preserved : goal.loop-p-preserved
loop-p-preserved c = let S = c.requires.0 in
    let h = c.loop-p-test.true in
    rests-turn _ c.loop-p.invariant S.fits h (c.reach_rests.ensures _ (nulls-of S) (rests_in S c.loop-p.p h))

pub returns : goal.returns
returns c = reaches-done c.loop-p.invariant c.loop-p-test.false c.requires.2
