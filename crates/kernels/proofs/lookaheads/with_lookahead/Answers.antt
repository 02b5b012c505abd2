use Rattle.kernels.specs.KernelLines.{with-large}
use borrow.Author.Rules.{rules}
use Rattle.kernels.proofs.lookaheads.with_lookahead.Goals as goal

pub returns : goal.returns
returns c = with-large _ _ (search rules) c.if-terminal-lt32.false
