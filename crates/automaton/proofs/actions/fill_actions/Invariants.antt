use Rattle.automaton.specs.ActionTable.{StatesActing}
use Rattle.automaton.proofs.actions.fill_actions.Given as goal

abbrev pub invariant-loop-state : goal.invariant-loop-state
invariant-loop-state l = StatesActing l.rules l.kernels l.bounds l.closures l.fronts l.terminals l.states l.actions l.state
