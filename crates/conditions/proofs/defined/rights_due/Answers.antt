use native.Mathlib.Omega.{arith}
use Rattle.conditions.specs.Sums.{summing_start, summing-turn, summing-low}
use Rattle.conditions.specs.Due.{right-due-low}
use Rattle.conditions.proofs.defined.rights_due.Goals as goal

pub loop-p-init : goal.loop-p-init
loop-p-init c = summing_start

pub overflow_add-n : goal.overflow_add-n
overflow_add-n c = let h = c.requires in
    omega (
      arith,
      h.0.few,
      c.loop-p-test.true,
      c.right_due-n.ensures,
      right-due-low h.1 h.0 c.loop-p.p c.loop-p-test.true,
      summing-low c.loop-p.invariant 256 (right-due-low h.1 h.0),
    )

pub loop-p-preserved : goal.loop-p-preserved
loop-p-preserved c = summing-turn c.loop-p.invariant c.loop-p-test.true c.right_due-n.ensures
