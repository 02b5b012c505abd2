use Rattle.stack.specs.Spans.{Run}
use Rattle.stack.proofs.spans.past.Given as goal

abbrev pub invariant-loop-i : goal.invariant-loop-i
invariant-loop-i l = Run l.definitions l.to l.rule l.first l.i
