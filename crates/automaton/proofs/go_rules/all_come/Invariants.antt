use Rattle.automaton.specs.Comes.{AllCome}
use Rattle.automaton.proofs.go_rules.all_come.Given as goal

abbrev pub invariant-loop-i : goal.invariant-loop-i
invariant-loop-i l = AllCome l.rules l.kernels l.bounds l.closures l.state l.symbol l.first l.last l.i
