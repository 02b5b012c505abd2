use Rattle.conditions.specs.Often.{Tallied}
use Rattle.conditions.proofs.limits.few.Given as goal

abbrev pub invariant-loop-i : goal.invariant-loop-i
invariant-loop-i l = Tallied l.words l.n l.i l.counts
