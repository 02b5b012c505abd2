use Rattle.console.specs.Digits.{Filling}
use Rattle.console.proofs.output.put_number.Given as goal

abbrev pub invariant-loop-v : goal.invariant-loop-v
invariant-loop-v l = Filling l.n l.at l.next l.initial.out l.v l.i l.out

abbrev pub decreases-loop-v : goal.decreases-loop-v
decreases-loop-v l = l.v
