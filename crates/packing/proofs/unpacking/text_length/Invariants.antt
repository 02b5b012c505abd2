use Rattle.std.proofs.Common.{◌≤◌, length}
use Rattle.packing.specs.Words.{Zeros}
use Rattle.packing.proofs.unpacking.text_length.Given as goal

abbrev pub invariant-loop-i : goal.invariant-loop-i
invariant-loop-i l = (l.i ≤ length l.words) × Zeros l.words l.i (length l.words)
