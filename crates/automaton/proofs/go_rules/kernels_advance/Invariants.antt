use Rattle.automaton.specs.Advances.{KernelsAdvance}
use Rattle.automaton.proofs.go_rules.kernels_advance.Given as goal

abbrev pub invariant-loop-i : goal.invariant-loop-i
invariant-loop-i l = KernelsAdvance l.rules l.kernels l.bounds l.table l.state l.last l.i
