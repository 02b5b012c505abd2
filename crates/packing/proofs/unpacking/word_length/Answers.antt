use Rattle.std.proofs.Common.{arith}
use Rattle.packing.specs.UnpackingLoops.{ends-top}
use Rattle.packing.proofs.unpacking.word_length.Goals as goal

pub returns : goal.returns
returns c = (omega arith, ends-top c.args.word c.ilog2.result c.ilog2.ensures.power_le c.ilog2.ensures.next_power_gt c.ilog2.ensures.bound)
