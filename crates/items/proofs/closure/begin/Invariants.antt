use Rattle.items.specs.KernelLines.{Beginning}
use Rattle.items.proofs.closure.begin.Given as goal

abbrev pub invariant-loop-i : goal.invariant-loop-i
invariant-loop-i l = Beginning l.rules l.kernels l.nullables l.begins l.from l.to l.initial.looks l.looks l.given l.i
