use Rattle.automaton.specs.ActionItems.{KernelsActing}
use Rattle.automaton.proofs.actions.kernels_act.Given as goal

abbrev pub invariant-loop-i : goal.invariant-loop-i
invariant-loop-i l = KernelsActing l.rules l.kernels l.bounds l.terminals l.state l.first l.initial.actions l.actions l.i
