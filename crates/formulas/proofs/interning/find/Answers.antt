use Rattle.std.proofs.Common.{arith}
use Rattle.std.proofs.lemmas.Grind.{common_steps}
use Rattle.formulas.specs.Nodes.{shown}
use Rattle.formulas.specs.Buckets.{hash-low, seek-start, seek-next, seek-less}
use Rattle.formulas.proofs.interning.find.Goals as goal

pub offset_bounds-nodes-bucket : goal.offset_bounds-nodes-bucket
offset_bounds-nodes-bucket c = omega (arith, c.requires.1, hash-low (shown c.args.row))

pub bounds-nodes-bucket : goal.bounds-nodes-bucket
bounds-nodes-bucket c = omega (arith, c.requires.1, hash-low (shown c.args.row), c.requires.0.heads_long)

pub loop-number-init : goal.loop-number-init
loop-number-init c = seek-start c.requires.0 (shown c.args.row) _ c.requires.1

pub loop-number-smaller : goal.loop-number-smaller
loop-number-smaller c = rw c.in-Some.ensures.1 (seek-less c.requires.0 _ c.in-Some.ensures.0 c.loop-number.invariant)

pub loop-number-preserved : goal.loop-number-preserved
loop-number-preserved c =
    rw c.in-Some.ensures.1 (seek-next c.requires.0 (shown c.args.row) c.in-Some.ensures.0 c.loop-number.invariant
    (λ e. grind (arith, common_steps, c.row_at.ensures)))
