use Prim.Native.Nat.{◌+◌, ◌-◌}
use mathlib.Core.Path.{◌≡◌}
use native.Mathlib.Omega.{arith}
use Rattle.plans.proofs.members.mark_places.Goals as goal

pub loop-i-preserved : goal.loop-i-preserved
loop-i-preserved c = let at = c.loop-i in λ b owned masks H e m z.
    let up : at.i - 1 + 1 ≡ at.i = omega (arith, c.loop-i-test.true) in
    c.mark_place.ensures b owned masks H (omega (arith, c.loop-i-test.true, e)) (rw up (at.invariant b owned masks H e m z))
