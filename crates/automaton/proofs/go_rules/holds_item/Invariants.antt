use Rattle.automaton.specs.HoldsItem.{Searched}
use Rattle.automaton.proofs.go_rules.holds_item.Given as goal

abbrev pub invariant-loop-i : goal.invariant-loop-i
invariant-loop-i l = Searched l.kernels l.first l.last l.rule l.dot l.set l.i
