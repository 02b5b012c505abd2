use native.Mathlib.Omega.{arith}
use lib.Dec.{lit<}
use lib.Pow.{shl_exact}
use Rattle.sets.specs.Sets.{single}
use Rattle.sets.proofs.single.Goals as goal

pub returns : goal.returns
unfolding single
returns c = omega (arith, shl_exact {a = 1} 1 c.args.i 32 (lit< tt) (omega arith))
