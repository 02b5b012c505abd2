use Rattle.kernels.specs.KernelLines.{kernel-steps}
use Rattle.kernels.proofs.kernels.kernel_line.Goals as goal

pub returns : goal.returns
returns c = kernel-steps _ _ _ c.item-read.ensures c.lookaheads-terminals.ensures c.is_some.ensures c.require-c.ensures
    c.closing-d.ensures c.ascends.ensures c.require-e.ensures c.unwrap_or.ensures c.put_line.ensures
