use Prim.Native.Nat.{◌<◌}
use mathlib.Core.Path.{refl}
use native.Mathlib.Omega.{arith}
use lib.Dec.{lit<}
use lib.Pow.{shl_exact}
use Rattle.attributes.specs.CheckingLaws.{rule_low}
use Rattle.agreement.specs.Given.{given-behind, given-front}
use Rattle.agreement.proofs.givers.give.Goals as goal

pub returns-then-position-ne1 : goal.returns-then-position-ne1
returns-then-position-ne1 c = λ b rules owned masks H l G.
    given-behind H l G c.word-rule.ensures c.word-position.ensures refl c.with.ensures c.if-position-ne1.true

pub returns : goal.returns
returns c =
    let rule : c.word-rule.result < 64 = omega (arith, c.word-rule.ensures, rule_low c.requires.4 c.requires.5) in
    λ b rules owned masks H l G.
    let one = shl_exact {a = 1} 1 c.word-rule.result 64 (lit< tt) (omega (arith, rule)) in
    given-front H l G c.word-rule.ensures c.word-position.ensures refl c.with.ensures (omega (arith, one))
