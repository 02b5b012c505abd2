use Prim.Native.Nat.{◌+◌, ◌≤◌, ◌<◌}
use native.Mathlib.Omega.{arith}
use lib.ListN.{get_or}
use Rattle.conditions.specs.Due.{counts-low, counts_start, counts-turn}
use Rattle.conditions.proofs.defined.count_owned.Goals as goal
use Rattle.conditions.proofs.defined.count_owned.Goals.{In-loop-k}

owner : (c : In-loop-k) → get_or c.args.owners.now c.loop-k.k 0 < 32
owner c = c.requires.0.low c.loop-k.k c.loop-k-test.true

pub loop-k-init : goal.loop-k-init
loop-k-init c = (omega arith, counts_start c.requires.1)

pub overflow_add-counts-in-loop-k : goal.overflow_add-counts-in-loop-k
overflow_add-counts-in-loop-k c =
    let few : c.loop-k.k ≤ 32 = omega (arith, c.loop-k.invariant.0, c.requires.0.few) in
    let word = 32 + get_or c.args.owners.now c.loop-k.k 0 in
    omega (arith, (counts-low (few) c.loop-k.invariant.1).low word (omega (arith, (owner (goal.at.overflow_add-counts-in-loop-k c).In-loop-k))))

pub loop-k-preserved : goal.loop-k-preserved
loop-k-preserved c =
    (omega (arith, c.loop-k-test.true), counts-turn (owner (goal.at.loop-k-preserved c).In-loop-k) c.loop-k.invariant.1)
