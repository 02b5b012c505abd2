use Rattle.sets.specs.Sets.{empty}
use Rattle.kernels.specs.KernelLines.{looking-start, looking-closed, looking-less, looking-turn}
use Rattle.kernels.proofs.lookaheads.lookaheads.Goals as goal

pub loop-terminal-init : goal.loop-terminal-init
unfolding empty
loop-terminal-init c = looking-start _ _ c.empty-set.ensures

pub returns-then-source-p-eq41 : goal.returns-then-source-p-eq41
returns-then-source-p-eq41 c = let one = c.in-Some.ensures in
    looking-closed (looking-turn c.loop-terminal.invariant one.names c.follows.ensures c.with_lookahead-set.ensures c.if-not-follows.false)
    one.inside c.if-source-p-eq41.true

pub loop-terminal-smaller : goal.loop-terminal-smaller
loop-terminal-smaller c =
    looking-less c.loop-terminal.invariant c.in-Some.ensures.names c.follows.ensures c.with_lookahead-set.ensures c.if-not-follows.false

pub loop-terminal-preserved : goal.loop-terminal-preserved
loop-terminal-preserved c =
    looking-turn c.loop-terminal.invariant c.in-Some.ensures.names c.follows.ensures c.with_lookahead-set.ensures c.if-not-follows.false
