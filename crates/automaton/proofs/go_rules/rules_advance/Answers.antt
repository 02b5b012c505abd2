use mathlib.Core.Path.{sym, ◌∙◌}
use Rattle.automaton.specs.Advances.{rules-none, rules-more, rules-fail, rules-all}
use Rattle.automaton.proofs.go_rules.rules_advance.Goals as goal

pub loop-rule-init : goal.loop-rule-init
loop-rule-init c = let a = c.args in
    rw c.into_iter-rule-iterator.ensures.into_iter_gives
    (rules-none a.rules.now a.kernels.now a.bounds.now a.closures.now a.table.now a.fronts.now a.state)

pub returns-then-not-rule_advances : goal.returns-then-not-rule_advances
returns-then-not-rule_advances c = rules-fail c.loop-rule.invariant c.in-Some.ensures.steps.0
    (λ b F h s. sym c.if-not-rule_advances.true ∙ c.rule_advances.ensures b F h s)

pub loop-rule-preserved : goal.loop-rule-preserved
loop-rule-preserved c = rules-more c.loop-rule.invariant c.in-Some.ensures.steps.0
    (λ b F h s. sym c.if-not-rule_advances.false ∙ c.rule_advances.ensures b F h s) c.in-Some.ensures.steps.1

pub returns : goal.returns
returns c = rules-all c.loop-rule.invariant c.in-None.ensures.steps
