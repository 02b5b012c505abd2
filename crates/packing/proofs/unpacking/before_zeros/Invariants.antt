use Rattle.std.proofs.Common.{length}
use Rattle.packing.specs.UnpackingLoops.{Front}
use Rattle.packing.proofs.unpacking.before_zeros.Given as goal

abbrev pub invariant-loop-front : goal.invariant-loop-front
invariant-loop-front l = Front l.words l.rest

abbrev pub decreases-loop-front : goal.decreases-loop-front
decreases-loop-front l = length l.rest
