use Rattle.agreement.specs.Apart.{Apart}
use Rattle.agreement.specs.SingleState.{line_word}
use Rattle.agreement.proofs.single.lines_apart.Given as goal

abbrev pub invariant-loop-i : goal.invariant-loop-i
invariant-loop-i l = Apart (line_word l.kernels l.given) l.base l.first l.i l.bits
