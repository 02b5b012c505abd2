use mathlib.Core.Path.{◌≡◌}
use native.Mathlib.Omega.{arith}
use Rattle.attributes.proofs.masks.mark_fronts.Goals as goal

pub loop-i-preserved : goal.loop-i-preserved
loop-i-preserved c = λ b F R begins owned cleared L C H e N T M.
    c.mark_front.ensures b F R begins owned cleared L C H (omega (arith, c.loop-i-test.true, e)) N T (c.loop-i.invariant b F R begins owned cleared L C H e N T M)

pub returns : goal.returns
returns c = λ b F R begins owned cleared L C H e N T M.
    let end : c.loop-i.i ≡ c.args.lines = omega arith in
    rw end at (c.loop-i.invariant b F R begins owned cleared L C H e N T M)
