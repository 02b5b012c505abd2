use Rattle.formulas.specs.Nodes.{shown}
use Rattle.formulas.specs.Buckets.{Seeking}
use Rattle.formulas.proofs.interning.find.Given as goal

abbrev pub invariant-loop-number : goal.invariant-loop-number
invariant-loop-number l = Seeking l.nodes.rows.now l.used (shown l.row) l.next

abbrev pub decreases-loop-number : goal.decreases-loop-number
decreases-loop-number l = l.next
