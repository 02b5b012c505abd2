use mathlib.Core.Path.{◌≡◌}
use native.Mathlib.Omega.{arith}
use Rattle.plans.specs.Found.{fronts-free}
use Rattle.plans.proofs.members.front_lines.Goals as goal

pub returns-then-front_free : goal.returns-then-front_free
returns-then-front_free c = λ b F R begins owned masks L C H e N T P M.
    fronts-free b F R _ C H P (c.front_free.ensures.free c.if-front_free.true) c.front_free.ensures.words e M

pub loop-i-preserved : goal.loop-i-preserved
loop-i-preserved c = λ b F R begins owned masks L C H e N T M.
    c.front_line.ensures b F R begins owned masks L C H (omega (arith, c.loop-i-test.true, e)) N T
    (c.loop-i.invariant b F R begins owned masks L C H e N T M)

pub returns : goal.returns
returns c = λ b F R begins owned masks L C H e N T P M.
    let end : c.loop-i.i ≡ c.args.program.now.lines = omega arith in
    rw end at (c.loop-i.invariant b F R begins owned masks L C H e N T M)
