use Rattle.std.proofs.Common.{◌≡◌}
use Rattle.packing.specs.Words.{Zeros}
use Rattle.packing.proofs.unpacking.block_bits.Given as goal

abbrev pub invariant-loop-word : goal.invariant-loop-word
invariant-loop-word l = l.bits ≡ 0 → Zeros l.block 0 l.word-index
