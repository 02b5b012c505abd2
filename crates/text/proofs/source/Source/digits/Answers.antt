use native.Mathlib.Omega.{arith}
use Rattle.text.proofs.Steps.{going-stop, going-over, going-turn, going_end}
use Rattle.text.proofs.source.Source.digits.Goals as goal

pub returns-in_default : goal.returns-in_default
returns-in_default c = going-stop _ _ _ _ c.loop-i.invariant c.loop-i-test.true c.in_default.ensures

pub returns-then-limit-v : goal.returns-then-limit-v
returns-then-limit-v c = rw c.no_number.ensures.0 (going-over _ _ _ _ c.loop-i.invariant c.loop-i-test.true c.in-Some.ensures.0 (λ q. omega (arith, c.in-Some.ensures.1, q)) c.if-limit-v.true c.no_number.ensures.1)

pub loop-i-preserved : goal.loop-i-preserved
loop-i-preserved c = going-turn _ _ _ _ c.loop-i.invariant c.loop-i-test.true c.in-Some.ensures.0 (λ q. omega (arith, c.in-Some.ensures.1, q)) c.if-limit-v.false

pub returns : goal.returns
returns c = going_end _ _ _ _ c.loop-i.invariant c.loop-i-test.false
