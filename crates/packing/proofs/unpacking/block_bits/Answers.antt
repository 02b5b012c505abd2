use Rattle.packing.specs.UnpackingLoops.{zeros-more}
use Rattle.packing.proofs.unpacking.block_bits.Goals as goal

pub loop-word-preserved : goal.loop-word-preserved
loop-word-preserved c = λ e. zeros-more c.loop-word.bits c.loop-word.invariant e
