use Rattle.automaton.specs.Advances.{StatesAdvance}
use Rattle.automaton.proofs.go_rules.states_advance.Given as goal

abbrev pub invariant-loop-state : goal.invariant-loop-state
invariant-loop-state l = StatesAdvance l.rules l.kernels l.bounds l.closures l.table l.fronts l.states l.state
