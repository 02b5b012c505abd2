use Prim.Native.Nat.{◌+◌}
use mathlib.Core.Path.{◌≡◌}
use Rattle.console.specs.Digits.{width}
use Rattle.console.proofs.output.width.Given as goal

abbrev pub invariant-loop-v : goal.invariant-loop-v
invariant-loop-v l = l.w + width l.v ≡ width l.n + 1

abbrev pub decreases-loop-v : goal.decreases-loop-v
decreases-loop-v l = l.v
