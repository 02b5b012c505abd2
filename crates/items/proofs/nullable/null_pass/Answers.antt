use mathlib.Core.Path.{ap, ◌∙◌}
use Rattle.sets.specs.Sets.{with}
use Rattle.items.specs.NullableLoops.{null-passing, null-found, null-left}
use Rattle.items.proofs.nullable.null_pass.Goals as goal

pub loop-p-init : goal.loop-p-init
loop-p-init c = null-passing _ _ _ c.ranges.nulls.fits

pub loop-p-preserved-then-null_right : goal.loop-p-preserved-then-null_right
loop-p-preserved-then-null_right c = null-found c.loop-p.invariant c.loop-p-test.true c.null_right.ensures
    c.if-null_right.true (c.with-found.ensures ∙ ap (with c.loop-p.found) c.left.ensures)

pub loop-p-preserved : goal.loop-p-preserved
loop-p-preserved c = null-left c.loop-p.invariant c.loop-p-test.true c.null_right.ensures c.if-null_right.false
