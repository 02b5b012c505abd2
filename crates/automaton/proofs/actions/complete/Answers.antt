use native.Mathlib.Omega.{arith}
use Rattle.automaton.specs.ActionRows.{completing-none, completing-more, completing-all, among-low}
use Rattle.automaton.proofs.actions.complete.Goals as goal

pub loop-a-init : goal.loop-a-init
loop-a-init c = let a = c.args in completing-none a.terminals a.state a.rule c.among-lookaheads.result a.actions.now

pub loop-a-preserved : goal.loop-a-preserved
loop-a-preserved c = let below = c.loop-a-test.true in
    completing-more c.loop-a.invariant c.requires.3 (among-low c.among-lookaheads.ensures c.loop-a.a below)
    c.complete_at-clear.ensures c.complete_at-clear.auto.actions

pub returns : goal.returns
returns c = let few = c.requires.3 in
    completing-all c.loop-a.invariant few (omega (arith, few, c.loop-a-test.false)) c.among-lookaheads.ensures
