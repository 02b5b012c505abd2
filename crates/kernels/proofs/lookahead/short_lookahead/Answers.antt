use native.Mathlib.Omega.{arith}
use Rattle.std.proofs.lemmas.Option.{IfSome_then}
use Rattle.kernels.specs.Lookahead.{nearby-of}
use Rattle.kernels.proofs.lookahead.short_lookahead.Goals as goal

pub returns-then-source-at : goal.returns-then-source-at
returns-then-source-at c =
    IfSome_then _ c.short.ensures (λ k brief. nearby-of _ (omega (arith, c.if-n-at.false)) brief c.if-source-at.true)
