use Rattle.items.specs.NullableLoops.{NullPassing}
use Rattle.items.proofs.nullable.null_pass.Given as goal

abbrev pub invariant-loop-p : goal.invariant-loop-p
invariant-loop-p l = NullPassing l.rules l.count l.nulls l.found l.p
