use Rattle.text.specs.Rest.{rest, size}
use Rattle.grammar.specs.Format.Parse.{lookaheads}
use Rattle.kernels.specs.KernelLines.{Looking}
use Rattle.kernels.proofs.lookaheads.lookaheads.Given as goal

abbrev pub invariant-loop-terminal : goal.invariant-loop-terminal
invariant-loop-terminal l = Looking (lookaheads (rest l.source.bytes.now l.at)) l.source.bytes.now l.count l.last l.set l.p

abbrev pub decreases-loop-terminal : goal.decreases-loop-terminal
decreases-loop-terminal l = size (rest l.source.bytes.now l.p)
