use native.Mathlib.Omega.{arith}
use Rattle.automaton.specs.Fronts.{fronts-more}
use Rattle.automaton.proofs.lefts.fill_fronts.Goals as goal

pub loop-state-preserved : goal.loop-state-preserved
loop-state-preserved c =
    fronts-more c.loop-state.invariant (omega (arith, c.loop-state-test.true, c.loop-state.auto.fronts, c.requires.4)) c.fill_lefts.ensures
    c.front.ensures
