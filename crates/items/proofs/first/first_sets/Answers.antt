use mathlib.Core.Path.{◌∙◌, ap}
use lib.ListN.{length}
use Rattle.grammar.specs.Automaton.FirstSets.{first_rule}
use Rattle.grammar.specs.Automaton.LeastLaws.{Fits}
use Rattle.items.specs.FirstLoops.{first-all}
use Rattle.items.specs.GrammarOf.{grammar_of}
use Rattle.items.specs.Passes.{closing-turn, closing-less, closing-ends}
use Rattle.items.specs.Searches.{first_fits, first-rising}
use Rattle.items.specs.Turned.{turned-fits, turned-least}
use Rattle.items.proofs.first.first_sets.Goals as goal
use Rattle.items.proofs.first.first_sets.Goals.{After-slice_known-1}

-- the rules fit the laws of passes
fits : (c : After-slice_known-1) → Fits (first_rule (grammar_of c.args.rules.now c.args.count) c.args.nulls)
    c.args.count c.args.firsts.now
fits c = first_fits c.requires.0 _ (record { long = ap length c.requires.1; low = λ i. (c.slice_known-1.given i).fits })

pub loop-smaller : goal.loop-smaller
loop-smaller c =
    closing-less (turned-fits (fits (goal.at.loop-smaller c).After-slice_known-1)) c.loop.invariant c.first_pass.ensures
    c.loop-test.true

pub loop-preserved : goal.loop-preserved
loop-preserved c =
    closing-turn (turned-fits (fits (goal.at.loop-preserved c).After-slice_known-1)) c.loop.invariant c.first_pass.ensures

pub returns : goal.returns
returns c =
    let here = (goal.at.returns c).After-slice_known-1 in
    let a = c.args in
    closing-ends (turned-fits (fits here)) c.loop.invariant c.first_pass.ensures
    c.loop-test.false
    ∙ turned-least (fits here) (first-rising _ _ _)
    ∙ first-all a.rules.now a.count a.nulls c.requires.1
