use mathlib.Core.Path.{◌∙◌, ap}
use lib.ListN.{length}
use Rattle.grammar.specs.Automaton.FirstSets.{sets_of}
use Rattle.grammar.specs.Automaton.ReachSets.{reach_rule}
use Rattle.grammar.specs.Automaton.LeastLaws.{Fits}
use Rattle.items.specs.GrammarOf.{grammar_of}
use Rattle.items.specs.Passes.{closing-turn, closing-less, closing-ends}
use Rattle.items.specs.ReachLoops.{reach-all}
use Rattle.items.specs.Searches.{reach-fits}
use Rattle.items.proofs.reach.reach_sets.Goals as goal
use Rattle.items.proofs.reach.reach_sets.Goals.{After-slice_known-1}

fits : (c : After-slice_known-1)
    → Fits (reach_rule (grammar_of c.args.rules.now c.args.count) (sets_of (grammar_of c.args.rules.now c.args.count))) c.args.count c.args.reached.now
fits c = reach-fits c.requires.0.fits _ (record { long = ap length c.requires.1; low = λ i. (c.slice_known-1.given i).fits })

pub loop-smaller : goal.loop-smaller
loop-smaller c =
    closing-less (fits (goal.at.loop-smaller c).After-slice_known-1) c.loop.invariant c.reach_pass.ensures
    c.loop-test.true

pub loop-preserved : goal.loop-preserved
loop-preserved c =
    closing-turn (fits (goal.at.loop-preserved c).After-slice_known-1) c.loop.invariant c.reach_pass.ensures

pub returns : goal.returns
returns c =
    let a = c.args in
    closing-ends (fits (goal.at.returns c).After-slice_known-1) c.loop.invariant c.reach_pass.ensures
    c.loop-test.false
    ∙ reach-all a.rules.now a.count (sets_of (grammar_of a.rules.now a.count)) c.requires.1
