use native.Mathlib.Omega.{arith}
use Rattle.grammar.specs.Automaton.FirstSets.{first_rule}
use Rattle.grammar.specs.Automaton.LeastLaws.{Fits}
use Rattle.items.specs.FirstLoops.{first-told}
use Rattle.items.specs.GrammarOf.{grammar_of}
use Rattle.items.specs.Searches.{first_fits}
use Rattle.items.specs.Turned.{descent-begins, descent-turn}
use Rattle.items.proofs.first.first_pass.Goals as goal
use Rattle.items.proofs.first.first_pass.Goals.{After-slice_known-1}

-- the rules fit the laws of passes
fits : (c : After-slice_known-1) → Fits (first_rule (grammar_of c.args.rules.now c.args.count) c.args.nulls)
    c.args.count c.args.firsts.now
fits c = first_fits c.requires.0 _ (record { long = c.requires.1; low = λ i. (c.slice_known-1.given i).fits })

pub loop-p-init : goal.loop-p-init
loop-p-init c =
    descent-begins (fits (goal.at.loop-p-init c).After-slice_known-1)

pub loop-p-preserved : goal.loop-p-preserved
loop-p-preserved c =
    let a = c.args in
    descent-turn (fits (goal.at.loop-p-preserved c).After-slice_known-1) c.loop-p.invariant c.loop-p-test.true
    (first-told a.rules.now a.count a.nulls (omega (arith, c.loop-p.invariant.within)) c.left.ensures
    c.first_right-more.ensures c.give-changed.ensures)
