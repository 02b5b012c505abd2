use Rattle.items.specs.Closures.{Closed}
use Rattle.items.proofs.closures.state_closures.Given as goal

abbrev pub invariant-loop-s : goal.invariant-loop-s
invariant-loop-s l = Closed l.rules l.count l.kernels l.bounds l.states l.nullables l.begins l.closures l.s
