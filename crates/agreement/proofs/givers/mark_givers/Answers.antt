use mathlib.Core.Path.{◌≡◌}
use native.Mathlib.Omega.{arith}
use Rattle.grammar.specs.Formulas.FormulaCheck as grammar
use Rattle.agreement.proofs.givers.mark_givers.Goals as goal

pub loop-i-preserved : goal.loop-i-preserved
loop-i-preserved c = λ b rules owned masks H e m.
    c.mark_giver-leaders.ensures b rules owned masks H (omega (arith, c.loop-i-test.true, e)) (c.loop-i.invariant b rules owned masks H e m)

pub returns : goal.returns
returns c = λ b rules owned masks H e m.
    let end : c.loop-i.i ≡ grammar.definitions b = omega (arith, c.loop-i-test.false, e) in
    rw end at (c.loop-i.invariant b rules owned masks H e m)
