use native.Mathlib.Omega.{arith}
use Rattle.book.specs.Short.{space-at}
use Rattle.kernels.specs.KernelLines.{item_of}
use Rattle.kernels.proofs.kernels.short_item.Goals as goal

pub returns : goal.returns
returns c = item_of c.in_ok-state.ensures.reads
    (space-at _ _ (omega (arith, c.if-n-at.false, c.in_ok-state.ensures.near)) c.if-source-a-ne32.false)
    c.in_ok-rule.ensures.reads
    (space-at _ _ (omega (arith, c.if-n-at.false, c.in_ok-state.ensures.near, c.in_ok-rule.ensures.near)) c.if-source-b-ne32.false)
    c.in_ok-dot.ensures.reads
