use mathlib.Core.Path.{ap, ◌∙◌}
use lib.ListN.{length}
use borrow.Author.Rules.{rules}
use Rattle.grammar.specs.Automaton.FirstSets.{sets_of}
use Rattle.grammar.specs.Automaton.ReachSets.{reach_sets}
use Rattle.grammar.specs.Automaton.ClosureSets.{closure_sets}
use Rattle.attributes.specs.StateMarks.{item-lines, state-looks, looks-below, range}
use Rattle.attributes.specs.FormulasHeld as FormulasHeld
use Rattle.plans.specs.Found.{fronts-found, found-lines}
use Rattle.plans.specs.FoundLines.{none_found, found-state}
use Rattle.plans.specs.PlansLaws.{listed-tell}
use Rattle.plans.specs.MemoryLaws.{plans-check, plans-room}
use Rattle.plans.proofs.members.members.Goals as goal

pub front_lines-requires : goal.front_lines-requires
front_lines-requires c = let (b, owned, H, l) = c.requires.0 in
    let F = H.formulas_held in
    let K = F.marks-held in (
      (
        b,
        owned,
        _,
        closure_sets b (sets_of b.rules) c.args.state,
        plans-check H,
        state-looks K l,
        F.definitions-counted,
        plans-room H,
        H.places_in,
      ),
      looks-below K l,
      c.requires.1,
      search rules,
    )

pub kernel_lines-requires : goal.kernel_lines-requires
kernel_lines-requires c = let (b, owned, H, l) = c.requires.0 in
    let lines = range H.formulas_held.marks-held l c.word-from.ensures c.word-to.ensures in (
      (
        b,
        _,
        owned,
        _,
        plans-check H,
        H.formulas_held.definitions-counted,
        item-lines H.formulas_held.marks-held,
        lines.within,
        plans-room H,
        H.places_in,
      ),
      lines.ordered,
      c.requires.1,
      c.front_lines.auto.found ∙ ap length c.requires.2,
    )

pub returns : goal.returns
returns c = λ b owned H l.
    let held = H.formulas_held in
    let K = held.marks-held in
    let F = sets_of b.rules in
    let R = reach_sets b.rules F in
    let N = K.rests_in.suffixes_in in
    let T = K.rests_in.reaches_in in
    let C = plans-check H in
    let closures = closure_sets b F c.args.state in
    let a = c.args.terminal in
    let first = c.word-from.ensures in
    let last = c.word-to.ensures in
    let e = held.definitions-counted in
    let limits = FormulasHeld.limits held in
    let declared = FormulasHeld.declared held in
    found-lines limits declared held.ordered
    (found-state K l first last
    (c.kernel_lines.ensures b F R H.begins _ owned _ _ held.ordered C e (item-lines K) (range K l first last).within N T H.places_in
    (fronts-found b F R a C e
    (c.front_lines.ensures b F R H.begins owned _ closures C (state-looks K l) e N T H.places_in (none_found b F R a closures c.requires.2)))))
    (listed-tell held.ordered limits declared c.args.state a)
