use Rattle.conditions.specs.Sums.{Summing}
use Rattle.conditions.specs.Due.{left_due}
use Rattle.conditions.proofs.defined.lefts_due.Given as goal

abbrev pub invariant-loop-p : goal.invariant-loop-p
invariant-loop-p l = Summing (left_due l.rules l.counts) l.count l.p l.n
