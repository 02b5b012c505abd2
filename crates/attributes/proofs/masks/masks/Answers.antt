use mathlib.Core.Path.{refl}
use Rattle.grammar.specs.Automaton.FirstSets.{sets_of}
use Rattle.grammar.specs.Automaton.ReachSets.{reach_sets}
use Rattle.grammar.specs.Automaton.ClosureSets.{closure_sets}
use borrow.Author.Rules.{rules}
use Rattle.attributes.specs.MarkFronts.{fronts-marked}
use Rattle.attributes.specs.StateMarks.{marks-room, item-lines, state-looks, looks-below, range, marks-state}
use Rattle.attributes.proofs.masks.masks.Goals as goal

pub mark_fronts-requires : goal.mark_fronts-requires
mark_fronts-requires c = let (b, begins, owned, H, C, e, l) = c.requires in
    ((b, owned, _, closure_sets b (sets_of b.rules) c.args.state, C, state-looks H l, e, marks-room H C refl), looks-below H l)

pub mark_lines-requires : goal.mark_lines-requires
mark_lines-requires c = let (b, begins, owned, H, C, e, l) = c.requires in
    let lines = range H l c.word-first.ensures c.word-last.ensures in
    ((b, item-lines H, lines.within, marks-room H C (search rules)), lines.ordered)

pub returns : goal.returns
returns c = λ b begins owned H C e l.
    let G = b.rules in
    let F = sets_of G in
    let R = reach_sets G F in
    let N = H.rests_in.suffixes_in in
    let T = H.rests_in.reaches_in in
    let closures = closure_sets b F c.args.state in
    let first = c.word-first.ensures in
    let last = c.word-last.ensures in
    marks-state H l first last
    (c.mark_lines.ensures b F R begins _ (item-lines H) (range H l first last).within N T
    (fronts-marked b closures F R C e (c.mark_fronts.ensures b F R begins owned _ closures C (state-looks H l) e N T C.masks_long)))
