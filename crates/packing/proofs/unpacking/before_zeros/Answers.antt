use Rattle.packing.specs.UnpackingLoops.{front-less}
use Rattle.packing.proofs.unpacking.before_zeros.Goals as goal

pub loop-front-preserved : goal.loop-front-preserved
loop-front-preserved c =
    let split = c.in-Some.ensures.cases in front-less _ c.loop-front.invariant split.2 split.0 split.1 (c.block_bits.ensures c.if-block_bits-ne0.false)
