use Rattle.automaton.specs.ActionRows.{Completing}
use Rattle.automaton.proofs.actions.complete.Given as goal

abbrev pub invariant-loop-a : goal.invariant-loop-a
invariant-loop-a l = Completing l.terminals l.state l.rule l.lookaheads l.initial.actions l.actions l.clear l.a
