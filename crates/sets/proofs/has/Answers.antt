use mathlib.Core.Path.{ap}
use Prim.Native.Nat.{ℕ, ◌/◌, ◌^◌}
use lib.Dec.{eqb}
use lib.Bits.{and_mask}
use Rattle.sets.specs.Sets.{bit}
use Rattle.sets.proofs.has.Goals as goal

pub returns : goal.returns
unfolding bit
returns c = ap (λ (k : ℕ). eqb k 1) (and_mask (c.args.s / 2 ^ c.args.i) 1)
