use Rattle.items.specs.NullableLoops.{NullClosing, null_left}
use Rattle.items.proofs.nullable.nullable.Given as goal

abbrev pub invariant-loop-next : goal.invariant-loop-next
invariant-loop-next l = NullClosing l.rules l.count l.nulls l.next

abbrev pub decreases-loop-next : goal.decreases-loop-next
decreases-loop-next l = null_left l.nulls
