use mathlib.Core.Path.{ap}
use mathlib.Core.Bool.{not}
use native.Mathlib.Omega.{arith}
use Rattle.agreement.specs.CheckLaws.{all_start, all-turn, one-fails}
use Rattle.agreement.specs.OneFormula.{state_right}
use Rattle.agreement.specs.Over.{kept-same, kept-more, room-over}
use Rattle.agreement.proofs.one_formula.states_right.Goals as goal

pub loop-state-init : goal.loop-state-init
loop-state-init c = (kept-same _, λ b begins H O L. all_start _)

pub state_right-requires : goal.state_right-requires
state_right-requires c = let g = c.requires.0 in
    let at = c.loop-state in
    ((g.0, g.1, g.2, g.3, g.4, c.loop-state-test.true), omega (arith, c.requires.1, at.auto.sets), room-over c.requires.2 at.invariant.0)

pub returns-then-not-state_right : goal.returns-then-not-state_right
returns-then-not-state_right c = record {
  room = kept-more c.loop-state.invariant.0 c.state_right.ensures.room;
  answer = λ b begins H O L.
      one-fails (state_right b) c.loop-state.state _ (omega (arith, c.loop-state-test.true, H.formulas_held.states_are))
      (c.state_right.ensures.answer b begins H O L c.loop-state-test.true) (ap not c.if-not-state_right.true);
}

pub loop-state-preserved : goal.loop-state-preserved
loop-state-preserved c = (
  kept-more c.loop-state.invariant.0 c.state_right.ensures.room,
  λ b begins H O L.
      all-turn (state_right b) c.loop-state.state (c.loop-state.invariant.1 b begins H O L)
      (c.state_right.ensures.answer b begins H O L c.loop-state-test.true) (ap not c.if-not-state_right.false),
)
