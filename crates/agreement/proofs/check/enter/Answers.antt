use native.Mathlib.Omega.{arith}
use Rattle.agreement.specs.EnterLaws.{enter-new, enter-old, enter-other}
use Rattle.agreement.proofs.check.enter.Goals as goal

pub returns-in_default : goal.returns-in_default
returns-in_default c = λ s done marks table heads nexts f R m.
    rw c.with.ensures (enter-new R c.requires.0 m (omega (arith, c.in_default.ensures)))

pub returns-then-stands-number : goal.returns-then-stands-number
returns-then-stands-number c = λ s done marks table heads nexts f R m.
    enter-other R c.requires.0 m (λ e. omega (arith, c.in-Some.ensures)) (λ e. c.if-stands-number.true (omega (arith, c.in-Some.ensures)))

pub returns : goal.returns
returns c = λ s done marks table heads nexts f R m.
    enter-old R c.requires.0 m (omega (arith, c.in-Some.ensures, c.if-stands-number.false))
