use mathlib.Core.Path.{◌≡◌}
use native.Mathlib.Omega.{arith}
use Rattle.plans.specs.Found.{found-start, found_turn}
use Rattle.plans.proofs.members.kernel_lines.Goals as goal

pub loop-i-init : goal.loop-i-init
loop-i-init c = (c.requires.1, λ b F R begins rules owned masks items ordered C e L l N T P M. found-start b F R _ b.kernels c.args.to M)

pub loop-i-preserved : goal.loop-i-preserved
loop-i-preserved c = let at = c.loop-i in (
  omega (arith, c.loop-i-test.true),
  λ b F R begins rules owned masks items ordered C e L l N T P M.
      found_turn b F R _ b.kernels at.i c.args.to items (omega (arith, c.loop-i-test.true)) at.auto.i l
      (c.kernel_line.ensures b F R begins rules owned masks _ ordered C e L (omega (arith, c.loop-i-test.true)) N T P
      (at.invariant.1 b F R begins rules owned masks items ordered C e L l N T P M)),
)

pub returns : goal.returns
returns c = λ b F R begins rules owned masks items ordered C e L l N T P M.
    let at = c.loop-i in
    let end : at.i ≡ c.args.from = omega (arith, at.invariant.0, c.loop-i-test.false) in
    rw end at (at.invariant.1 b F R begins rules owned masks items ordered C e L l N T P M)
