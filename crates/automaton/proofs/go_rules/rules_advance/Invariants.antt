use Rattle.automaton.specs.Advances.{RulesAdvance}
use Rattle.automaton.proofs.go_rules.rules_advance.Given as goal

abbrev pub invariant-loop-rule : goal.invariant-loop-rule
invariant-loop-rule l = RulesAdvance l.rules l.kernels l.bounds l.closures l.table l.fronts l.state l.rule-iterator.0
