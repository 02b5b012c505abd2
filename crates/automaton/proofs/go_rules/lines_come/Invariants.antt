use Rattle.automaton.specs.Comes.{LinesCome}
use Rattle.automaton.proofs.go_rules.lines_come.Given as goal

abbrev pub invariant-loop-i : goal.invariant-loop-i
invariant-loop-i l = LinesCome l.rules l.kernels l.goes l.bounds l.closures l.count l.i
