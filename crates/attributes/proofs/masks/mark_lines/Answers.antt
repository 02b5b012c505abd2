use mathlib.Core.Path.{◌≡◌}
use native.Mathlib.Omega.{arith}
use Rattle.attributes.specs.MarkLines.{marks-start, marks-turn}
use Rattle.attributes.proofs.masks.mark_lines.Goals as goal

pub loop-i-init : goal.loop-i-init
loop-i-init c = (c.requires.1, λ b F R begins items L l N T M. marks-start b.kernels c.args.last M)

pub loop-i-preserved : goal.loop-i-preserved
loop-i-preserved c = let at = c.loop-i in (
  omega (arith, c.loop-i-test.true),
  λ b F R begins items L l N T M.
      marks-turn b.kernels at.i c.args.last items (omega (arith, c.loop-i-test.true)) at.auto.i l
      (c.mark_line.ensures b F R begins _ L (omega (arith, c.loop-i-test.true)) N T (at.invariant.1 b F R begins items L l N T M)),
)

pub returns : goal.returns
returns c = λ b F R begins items L l N T M.
    let at = c.loop-i in
    let end : at.i ≡ c.args.first = omega (arith, at.invariant.0, c.loop-i-test.false) in
    rw end at (at.invariant.1 b F R begins items L l N T M)
