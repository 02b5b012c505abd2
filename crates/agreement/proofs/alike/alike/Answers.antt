use mathlib.Core.Path.{sym, ◌∙◌}
use native.Mathlib.Omega.{arith}
use borrow.Author.Tests.{not-true}
use Rattle.sets.specs.Sets.{bit}
use Rattle.agreement.specs.Alike.{untold-turn}
use Rattle.agreement.proofs.alike.alike.Goals as goal

pub loop-i-preserved : goal.loop-i-preserved
loop-i-preserved c = let at = c.loop-i in λ b rules owned H e.
    rw c.union-apart.ensures
    (untold-turn b c.args.masks.now c.args.terminal at.apart c.item_apart-more.result at.i (at.invariant b rules owned H e)
    (c.item_apart-more.ensures b rules owned H (omega (arith, c.loop-i-test.true, e))))

pub returns : goal.returns
returns c = λ b rules owned H e k h t d l.
    let at = c.loop-i in
    at.invariant b rules owned H e k h (not-true (bit at.apart k) (sym (c.others.ensures k h) ∙ t)) d (omega (arith, l, e, c.loop-i-test.false))
