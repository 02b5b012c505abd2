use Prim.Native.Nat.{◌+◌, ◌*◌, ◌≤◌}
use mathlib.Core.Path.{refl}
use native.Mathlib.Omega.{arith}
use lib.ListN.{get_or}
use Rattle.conditions.specs.Sums.{summing_start, summing-turn, summing-low}
use Rattle.conditions.specs.Due.{left_due, left-due-low}
use Rattle.conditions.proofs.defined.lefts_due.Goals as goal

pub loop-p-init : goal.loop-p-init
loop-p-init c = summing_start

pub overflow_add-n-in-loop-p : goal.overflow_add-n-in-loop-p
unfolding left_due
overflow_add-n-in-loop-p c =
    let due : get_or c.args.counts.now (32 + get_or c.args.rules.now (10 * c.loop-p.p) 0) 0 ≤ 32 = left-due-low c.requires.1 c.requires.0 c.loop-p.p c.loop-p-test.true in
    let so_far : c.loop-p.n ≤ 2048 = omega (arith, c.requires.0.few, c.loop-p-test.true, summing-low c.loop-p.invariant 32 (left-due-low c.requires.1 c.requires.0)) in
    omega (arith, due, so_far)

pub loop-p-preserved : goal.loop-p-preserved
unfolding left_due
loop-p-preserved c = summing-turn c.loop-p.invariant c.loop-p-test.true refl
