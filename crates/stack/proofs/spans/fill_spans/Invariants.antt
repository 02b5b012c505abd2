use Rattle.stack.specs.Spans.{Starting}
use Rattle.stack.proofs.spans.fill_spans.Given as goal

abbrev pub invariant-loop-p : goal.invariant-loop-p
invariant-loop-p l = Starting l.definitions l.from l.to l.rules l.spans l.at l.p
