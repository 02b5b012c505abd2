use mathlib.Core.Path.{◌≡◌, sym, ◌∙◌}
use borrow.Author.Tests.{eq-eqb, ne_eqb}
use Rattle.automaton.specs.HoldsItem.{named, other-item, same-item}
use Rattle.automaton.proofs.go_rules.is_item.Goals as goal
use Rattle.automaton.proofs.go_rules.is_item.Goals.{Joined-word-rule, then-word-rule, else-word-rule}

-- what the first two tests tell
tested : (c : Joined-word-rule) → c.if-word-rule.value ≡ named c.args.kernels.now c.args.i c.args.rule c.args.dot c.args.set
tested c = elim c.if-word-rule.branch [
  | then-word-rule w ↦ w.value-is ∙ rw (← c.word.ensures, ← w.word-then-word-rule.ensures, eq-eqb _ _ w.if-word-rule.true)
  | else-word-rule w ↦ w.value-is ∙ rw (← c.word.ensures, ne_eqb _ _ w.if-word-rule.false)
]

pub returns-then-word-dot : goal.returns-then-word-dot
returns-then-word-dot c = let a = c.args in
    same-item a.kernels.now a.i a.rule a.dot a.set (sym (tested (goal.at.returns-then-word-dot c).Joined-word-rule) ∙ c.if-word-dot.true) c.subset.ensures

pub returns-else-word-dot : goal.returns-else-word-dot
returns-else-word-dot c = let a = c.args in
    let t = tested (goal.at.returns-else-word-dot c).Joined-word-rule in
    t ∙ other-item a.kernels.now a.i a.rule a.dot a.set (sym t ∙ c.if-word-dot.false)
