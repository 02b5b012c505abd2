use Prim.Native.Nat.{◌≤◌}
use Rattle.conditions.specs.Due.{Counts}
use Rattle.conditions.proofs.defined.count_owned.Given as goal

abbrev pub invariant-loop-k : goal.invariant-loop-k
invariant-loop-k l = (l.k ≤ l.n) × Counts l.owners l.k l.counts
