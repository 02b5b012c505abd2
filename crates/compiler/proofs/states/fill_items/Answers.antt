use Rattle.grammar.specs.Automaton.FirstSets.{sets_of}
use Rattle.compiler.specs.States.{held-grammar, held_items}
use Rattle.compiler.proofs.states.fill_items.Goals as goal

pub rests-requires-clause-grammar_held : goal.rests-requires-clause-grammar_held
rests-requires-clause-grammar_held c = let (b, h, e, T) = c.requires.kernels_held in (b.rules, held-grammar h e)

pub fill_closures-requires : goal.fill_closures-requires
fill_closures-requires c = let b = c.requires.kernels_held.0 in
    let h = c.requires.kernels_held.1 in
    let R = c.rests.ensures b.rules (held-grammar h c.requires.kernels_held.2) in
    ((b, sets_of b.rules, held_items h c.requires.kernels_held.3 c.requires.kernels_held.2 R.suffixes_in), c.requires.count_in_bounds.3)

pub returns : goal.returns
returns c = λ b h e T.
    let R = c.rests.ensures b.rules (held-grammar h e) in
    record { rests_in = R; closures_in = c.fill_closures.ensures b (sets_of b.rules) (held_items h T e R.suffixes_in) }
