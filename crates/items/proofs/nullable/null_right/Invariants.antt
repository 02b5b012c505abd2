use Rattle.items.specs.NullableLoops.{Vanishing}
use Rattle.items.proofs.nullable.null_right.Given as goal

abbrev pub invariant-loop-d : goal.invariant-loop-d
invariant-loop-d l = Vanishing l.rules l.p l.nulls l.d-end l.d
