use Prim.Native.Nat.{◌*◌, ◌≤◌}
use mathlib.Core.Path.{◌≡◌}
use lib.ListN.{length}
use Rattle.packing.specs.Words.{Copied}
use Rattle.packing.proofs.unpacking.unpack.Given as goal

abbrev pub invariant-loop-k : goal.invariant-loop-k
invariant-loop-k l = (16 * l.k ≤ length l.initial.text) × (length l.text ≡ length l.initial.text) × Copied l.words (4 * l.k) l.text
