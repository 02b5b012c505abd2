use Prim.Native.Nat.{◌%◌}
use mathlib.Core.Path.{refl}
use native.Mathlib.Omega.{arith}
use lib.Dec.{lit<}
use lib.Pow.{shl_exact}
use Rattle.plans.specs.LinesAdded.{line-added}
use Rattle.plans.proofs.members.add.Goals as goal

pub returns : goal.returns
returns c = let one = shl_exact {a = 1} 1 (c.args.line % 64) 64 (lit< tt) (omega arith) in
    line-added c.requires.0 c.requires.1 refl (omega (arith, one))
