use native.Mathlib.Omega.{arith}
use Rattle.definitions.specs.ExpressionsShort.{headed, headed-heads, operator-short}
use Rattle.definitions.proofs.short.short_begun.Goals as goal

pub returns : goal.returns
returns c = operator-short (omega (arith, c.if-source-at.false)) (headed _ _ c.four-head.ensures) _ (headed-heads c.in_ok-operator.ensures) c.if-source-at-ne32.false
