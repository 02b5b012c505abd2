use Prim.Native.Nat.{◌+◌, ◌*◌, ◌≤◌, ◌<◌}
use mathlib.Core.Path.{refl}
use native.Mathlib.Omega.{arith}
use lib.ListN.{length, get_or}
use Rattle.conditions.specs.Sums.{summing_start, summing-turn, summing-end, summing-low}
use Rattle.conditions.specs.Due.{right_count, right_due, right-count-low}
use Rattle.conditions.proofs.defined.right_due.Goals as goal

pub loop-d-init : goal.loop-d-init
loop-d-init c = summing_start

pub overflow_add-n-in-loop-d-2 : goal.overflow_add-n-in-loop-d-2
overflow_add-n-in-loop-d-2 c =
    let place : 10 * c.args.p + 2 + c.loop-d.d < length c.args.rules.now = omega (arith, c.loop-d-test.true, c.requires.0.long, c.requires.0.few) in
    let symbol : get_or c.args.rules.now (10 * c.args.p + 2 + c.loop-d.d) 0 < 64 = c.requires.0.low c.loop-d.d c.loop-d-test.true in
    let due : get_or c.args.counts.now (get_or c.args.rules.now (10 * c.args.p + 2 + c.loop-d.d) 0) 0 ≤ 32 = c.requires.1.low (get_or c.args.rules.now (10 * c.args.p + 2 + c.loop-d.d) 0) (symbol) in
    let so_far : c.loop-d.n ≤ 256 = omega (
      arith,
      c.loop-d-test.true,
      c.requires.0.few,
      summing-low c.loop-d.invariant 32 (right-count-low c.requires.1 c.requires.0),
    ) in
    omega (arith, due, so_far, place)

pub loop-d-preserved : goal.loop-d-preserved
unfolding right_count
loop-d-preserved c = summing-turn c.loop-d.invariant c.loop-d-test.true refl

pub returns : goal.returns
unfolding right_due
returns c = summing-end c.loop-d.invariant c.loop-d-test.false
