use Prim.Native.Nat.{◌<◌}
use mathlib.Core.Path.{sym}
use native.Mathlib.Omega.{arith}
use lib.ListN.{get_or}
use Rattle.attributes.specs.Owned.{owned-start, owned-turn}
use Rattle.attributes.proofs.owned.owned.Goals as goal

pub loop-i-init : goal.loop-i-init
loop-i-init c = λ os H e. owned-start c.requires.1

pub loop-i-preserved : goal.loop-i-preserved
loop-i-preserved c =
    let i = c.loop-i.i in
    let (os, H, e, low) = c.requires.0 in
    let owner : get_or c.args.owners.now i 0 < 32 = omega (arith, H.owner_is i (omega (arith, e)), low i c.loop-i-test.true) in
    λ os H e. rw c.with.ensures (owned-turn (c.loop-i.invariant os H e) _ (sym (H.owner_is i (omega (arith, e)))) owner)
