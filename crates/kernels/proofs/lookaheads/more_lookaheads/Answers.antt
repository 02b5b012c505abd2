use native.Mathlib.Omega.{arith}
use Rattle.kernels.specs.KernelLines.{looking-done, looking-less, looking-turn, looking-out}
use Rattle.kernels.proofs.lookaheads.more_lookaheads.Goals as goal

pub returns-then-not-fine : goal.returns-then-not-fine
returns-then-not-fine c = looking-out c.loop-terminal.invariant c.in-Some.ensures c.follows-fine.ensures c.with_lookahead-set.ensures
    c.if-not-fine.true (omega arith)

pub loop-terminal-smaller : goal.loop-terminal-smaller
loop-terminal-smaller c =
    looking-less c.loop-terminal.invariant c.in-Some.ensures c.follows-fine.ensures c.with_lookahead-set.ensures c.if-not-fine.false

pub loop-terminal-preserved : goal.loop-terminal-preserved
loop-terminal-preserved c =
    looking-turn c.loop-terminal.invariant c.in-Some.ensures c.follows-fine.ensures c.with_lookahead-set.ensures c.if-not-fine.false

pub returns : goal.returns
returns c = looking-done c.loop-terminal.invariant c.in_default.ensures
