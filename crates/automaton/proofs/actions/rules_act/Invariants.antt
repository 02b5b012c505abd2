use Rattle.automaton.specs.ActionItems.{RulesActing}
use Rattle.automaton.proofs.actions.rules_act.Given as goal

abbrev pub invariant-loop-rule : goal.invariant-loop-rule
invariant-loop-rule l = RulesActing l.rules l.closures l.fronts l.terminals l.state l.initial.actions l.actions l.rule-iterator.0
