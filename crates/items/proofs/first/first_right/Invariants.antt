use Rattle.items.specs.FirstLoops.{Beginning}
use Rattle.items.proofs.first.first_right.Given as goal

abbrev pub invariant-loop-d : goal.invariant-loop-d
invariant-loop-d l = Beginning l.rules l.p l.nulls l.firsts l.d-end l.found l.d
