use mathlib.Core.Path.{sym, ◌∙◌}
use Rattle.automaton.specs.Advances.{states-more, states-fail, states-all}
use Rattle.automaton.proofs.go_rules.states_advance.Goals as goal

pub returns-then-not-state_advances : goal.returns-then-not-state_advances
returns-then-not-state_advances c = states-fail c.loop-state.invariant c.loop-state-test.true
    (λ b F h s W. sym c.if-not-state_advances.true ∙ c.state_advances.ensures b F h s W)

pub loop-state-preserved : goal.loop-state-preserved
loop-state-preserved c = states-more c.loop-state.invariant c.loop-state-test.true
    (λ b F h s W. sym c.if-not-state_advances.false ∙ c.state_advances.ensures b F h s W)

pub returns : goal.returns
returns c = states-all c.loop-state.invariant c.loop-state-test.false
