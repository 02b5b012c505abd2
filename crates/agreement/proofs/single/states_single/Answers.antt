use native.Mathlib.Omega.{arith}
use Rattle.sets.specs.Bits.{below_suc}
use Rattle.agreement.specs.SingleState.{Single}
use Rattle.agreement.proofs.single.states_single.Goals as goal

pub loop-state-preserved : goal.loop-state-preserved
loop-state-preserved c = let at = c.loop-state in λ b rules closures o I W G e S l.
    below_suc (Single b) at.state S (omega arith) (at.invariant b rules closures o I W G e S)
    (c.single.ensures c.if-not-single.false b rules closures o I W G (omega (arith, c.loop-state-test.true, e)))

pub returns : goal.returns
returns c = λ _ b rules closures o I W G e S l. c.loop-state.invariant b rules closures o I W G e S (omega (arith, c.loop-state-test.false, e))
