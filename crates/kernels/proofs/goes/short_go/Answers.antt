use native.Mathlib.Omega.{arith}
use Rattle.book.specs.Short.{space-at, end-at}
use Rattle.kernels.specs.GoLines.{goes_of}
use Rattle.kernels.proofs.goes.short_go.Goals as goal

pub returns-then-source-c : goal.returns-then-source-c
returns-then-source-c c = let near = c.in_ok-state.ensures.near in
    let nearer = c.in_ok-x.ensures.near in
    goes_of _ _ c.in_ok-state.ensures.reads
    (space-at _ _ (omega (arith, c.if-n-at.false, near)) c.if-source-a-ne32.false)
    c.in_ok-x.ensures.gives
    (space-at _ _ (omega (arith, c.if-n-at.false, near, nearer)) c.if-source-b-ne32.false)
    c.in_ok-target.ensures.reads
    (end-at _ _ (omega (arith, c.if-n-at.false, near, nearer, c.in_ok-target.ensures.near)) c.if-source-c.true)
