use Rattle.automaton.specs.ActionItems.{acting-none, acting-more, acting-fail, acting-all}
use Rattle.automaton.proofs.actions.rules_act.Goals as goal

pub loop-rule-init : goal.loop-rule-init
loop-rule-init c = let a = c.args in
    rw c.into_iter-rule-iterator.ensures.into_iter_gives
    (acting-none a.rules.now a.closures.now a.fronts.now a.terminals a.state a.actions.now)

pub returns-then-not-rule_acts : goal.returns-then-not-rule_acts
returns-then-not-rule_acts c = acting-fail c.loop-rule.invariant c.in-Some.ensures.steps.0 c.rule_acts.ensures
    c.if-not-rule_acts.true

pub loop-rule-preserved : goal.loop-rule-preserved
loop-rule-preserved c = acting-more c.loop-rule.invariant c.in-Some.ensures.steps.0 c.rule_acts.ensures
    c.if-not-rule_acts.false c.rule_acts.auto.actions c.in-Some.ensures.steps.1

pub returns : goal.returns
returns c = acting-all c.loop-rule.invariant c.in-None.ensures.steps
