use Rattle.automaton.specs.ActionTable.{states-more, states-fail, states-all}
use Rattle.automaton.proofs.actions.fill_actions.Goals as goal

pub returns-then-not-state_acts : goal.returns-then-not-state_acts
returns-then-not-state_acts c = states-fail c.loop-state.invariant c.loop-state-test.true c.state_acts.ensures
    c.if-not-state_acts.true

pub loop-state-preserved : goal.loop-state-preserved
loop-state-preserved c = states-more c.loop-state.invariant c.loop-state-test.true c.state_acts.ensures
    c.if-not-state_acts.false c.state_acts.auto.actions

pub returns : goal.returns
returns c = states-all c.loop-state.invariant c.loop-state-test.false
