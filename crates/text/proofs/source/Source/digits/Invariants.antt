use Rattle.text.specs.Reading.{system_of}
use Rattle.text.proofs.Steps.{Going}
use Rattle.text.proofs.source.Source.digits.Given as goal

abbrev pub invariant-loop-i : goal.invariant-loop-i
invariant-loop-i l = Going (system_of l.s) l.self.bytes.now l.first l.at l.v l.i
