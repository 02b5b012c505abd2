use native.Mathlib.Omega.{arith}
use Rattle.text.proofs.Steps.{reads-out, reads-zero, reads-base, reads-some}
use Rattle.text.proofs.source.Source.numeral.Goals as goal

pub returns-then-n-at : goal.returns-then-n-at
returns-then-n-at c = rw c.no_number.ensures.0 (reads-out _ _ _ c.if-n-at.true c.no_number.ensures.1)

pub returns-in_default : goal.returns-in_default
returns-in_default c = rw c.no_number-in_default.ensures.0 (reads-base _ _ _ c.args.s.valid c.if-n-at.false c.in_default.ensures c.no_number-in_default.ensures.1)

pub returns-then-first-eq0 : goal.returns-then-first-eq0
returns-then-first-eq0 c = reads-zero _ _ _ c.if-n-at.false c.in-Some.ensures.0 c.if-first-eq0.true

pub returns : goal.returns
returns c = reads-some _ _ _ c.if-n-at.false c.in-Some.ensures.0 c.args.s.valid c.if-first-eq0.false (λ q. omega (arith, c.in-Some.ensures.1, q)) c.digits.ensures
