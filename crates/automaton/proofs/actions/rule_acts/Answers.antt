use borrow.Author.Tests.{eq-eqb}
use Rattle.automaton.specs.ActionItems.{rule-idle, rule-busy}
use Rattle.automaton.proofs.actions.rule_acts.Goals as goal

pub returns-then-set-eq0 : goal.returns-then-set-eq0
returns-then-set-eq0 c = λ b F items g k s t row.
    rw (eq-eqb _ _ c.if-set-eq0.true) (rule-idle g k s c.word.ensures items c.if-set-eq0.true row)

pub returns-else-set-eq0 : goal.returns-else-set-eq0
returns-else-set-eq0 c = λ b F items g k s t row.
    rule-busy g k s c.word.ensures items c.if-set-eq0.false
    (c.give_item.ensures b _ g s t row)
