use Rattle.grammar.specs.Automaton.FirstSets.{sets_of}
use Rattle.grammar.specs.Automaton.ReachSets.{reach_rule}
use Rattle.grammar.specs.Automaton.LeastLaws.{Fits}
use Rattle.items.specs.GrammarOf.{grammar_of}
use Rattle.items.specs.Passes.{pass-begins, turn}
use Rattle.items.specs.ReachLoops.{nulls-of, rests_in, rests-there, reach-told}
use Rattle.items.specs.Searches.{reach-fits}
use Rattle.items.proofs.reach.reach_pass.Goals as goal
use Rattle.items.proofs.reach.reach_pass.Goals.{After-slice_known-1}

fits : (c : After-slice_known-1)
    → Fits (reach_rule (grammar_of c.args.rules.now c.args.count) (sets_of (grammar_of c.args.rules.now c.args.count))) c.args.count c.args.reached.now
fits c = reach-fits c.requires.0.fits _ (record { long = c.requires.1; low = λ i. (c.slice_known-1.given i).fits })

pub loop-p-init : goal.loop-p-init
loop-p-init c =
    pass-begins (fits (goal.at.loop-p-init c).After-slice_known-1)

pub reach_rest-more-requires-clause-p_in_bounds : goal.reach_rest-more-requires-clause-p_in_bounds
reach_rest-more-requires-clause-p_in_bounds c = rests-there c.requires.0 c.loop-p.p c.loop-p-test.true

pub loop-p-preserved : goal.loop-p-preserved
loop-p-preserved c =
    let F = fits (goal.at.loop-p-preserved c).After-slice_known-1 in
    let S = c.requires.0 in
    let h = c.loop-p-test.true in
    turn F c.loop-p.invariant h
    (reach-told S h c.left.ensures (c.reach_rest-more.ensures _ (nulls-of S) (rests_in S c.loop-p.p h)) c.give-changed.ensures)
