use native.Mathlib.Omega.{arith}
use Rattle.automaton.specs.KernelRules.{walked_more, walks-fails}
use Rattle.automaton.proofs.kernel_rules.lines_right.Goals as goal

pub returns-then-not-line_right : goal.returns-then-not-line_right
returns-then-not-line_right c = let loop = c.loop-i in
    λ b H W.
    walks-fails H (loop.invariant b H W).some c.loop-i-test.true
    (c.line_right.ensures b H.named_in (loop.invariant b H W).some (omega (arith, H.counted))) c.if-not-line_right.true

pub loop-i-preserved : goal.loop-i-preserved
loop-i-preserved c = let loop = c.loop-i in
    λ b H W.
    let N = loop.invariant b H W in
    walked_more H N c.loop-i-test.true c.word-state.ensures
    (c.line_right.ensures b H.named_in N.some (omega (arith, H.counted))) c.if-not-line_right.false
