use Prim.Native.Nat.{◌≤◌}
use native.Mathlib.Omega.{arith}
use Rattle.automaton.specs.StatesIn.{KernelLow, kernel-low, kernel-rule}
use Rattle.agreement.proofs.single.line_gives.Goals as goal

pub bounds-given-rule : goal.bounds-given-rule
bounds-given-rule c =
    let low : KernelLow c.args.kernels.now c.args.i = kernel-low c.requires.3 c.args.i c.requires.4 in
    let dot : c.word-dot.result ≤ 8 = omega (arith, c.word-dot.ensures, (low).dot_low) in
    omega (arith, c.word-rule.ensures, kernel-rule c.requires.3 c.args.i c.requires.4, dot, c.requires.5)
