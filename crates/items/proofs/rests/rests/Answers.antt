use mathlib.Core.Path.{refl}
use native.Mathlib.Omega.{arith}
use Rattle.items.specs.GrammarOf.{grammar-fits}
use Rattle.items.specs.ReachLoops.{SetsIn}
use Rattle.items.specs.RestSets.{sets-in, rest-sets-in, living-reaches-in}
use Rattle.items.proofs.rests.rests.Goals as goal
use Rattle.items.proofs.rests.rests.Goals.{After-suffixes}

-- what is there by then
prepared : (c : After-suffixes) → SetsIn c.args.rules.now c.args.count c.nullable-nulls.result
    c.suffixes.new.nullables c.suffixes.new.begins
prepared c = sets-in (grammar-fits c.requires.grammar_held.1) c.nullable-nulls.ensures
    c.first_sets.ensures
    c.suffixes.ensures.0

pub nullable-nulls-requires : goal.nullable-nulls-requires
nullable-nulls-requires c = grammar-fits c.requires.grammar_held.1

pub first_sets-requires : goal.first_sets-requires
first_sets-requires c = (grammar-fits c.requires.grammar_held.1, refl)

pub suffixes-requires-clause-grammar_fits : goal.suffixes-requires-clause-grammar_fits
suffixes-requires-clause-grammar_fits c = (grammar-fits c.requires.grammar_held.1, c.first_sets.auto.firsts)

pub reach-requires : goal.reach-requires
reach-requires c =
    ((prepared (goal.at.reach-requires c).After-suffixes), c.requires.count_in_bounds.2)

pub returns-then-suffixes : goal.returns-then-suffixes
returns-then-suffixes c =
    let here = (goal.at.returns-then-suffixes c).After-suffixes in
    rest-sets-in (prepared here)
    (living-reaches-in (prepared here) c.first_sets.ensures (c.suffixes.ensures.1 c.if-suffixes.true)
    (omega (arith, c.copy.auto.to, c.requires.count_in_bounds.2)) c.copy.ensures)

pub returns-else-suffixes : goal.returns-else-suffixes
returns-else-suffixes c =
    rest-sets-in (prepared (goal.at.returns-else-suffixes c).After-suffixes) c.reach.ensures
