use Rattle.attempts.specs.Tokens.{kinds-low, kinds-high, kinds-turn, kinds-end}
use Rattle.attempts.proofs.tokens.kinds_right.Goals.{then-kind-eq0-via-then-kind-eq0, then-kind-eq0-via-else-kind-eq0+then-terminals-kind}
use Rattle.attempts.proofs.tokens.kinds_right.Goals as goal

pub returns-then-kind-eq0 : goal.returns-then-kind-eq0
returns-then-kind-eq0 c =
    elim c.then-kind-eq0.branch [
      | then-kind-eq0-via-then-kind-eq0 w ↦ kinds-low _ _ c.loop-i.i c.loop-i-test.true c.loop-i.invariant w.if-kind-eq0.true
      | then-kind-eq0-via-else-kind-eq0+then-terminals-kind w ↦ kinds-high _ _ c.loop-i.i c.loop-i-test.true c.loop-i.invariant w.if-terminals-kind.true
    ]

pub loop-i-preserved : goal.loop-i-preserved
loop-i-preserved c = kinds-turn _ _ c.loop-i.i c.loop-i-test.true c.loop-i.invariant c.if-kind-eq0.false c.if-terminals-kind.false

pub returns : goal.returns
returns c = kinds-end _ _ c.loop-i.i c.loop-i-test.false c.loop-i.invariant
