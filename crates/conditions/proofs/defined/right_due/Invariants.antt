use Rattle.conditions.specs.Sums.{Summing}
use Rattle.conditions.specs.Due.{right_count}
use Rattle.conditions.proofs.defined.right_due.Given as goal

abbrev pub invariant-loop-d : goal.invariant-loop-d
invariant-loop-d l = Summing (right_count l.rules l.counts l.p) l.size l.d l.n
