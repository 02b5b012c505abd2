use mathlib.Core.Path.{refl}
use Rattle.automaton.specs.ActionItems.{state-fail, state-rest}
use Rattle.automaton.proofs.actions.state_acts.Goals as goal

pub returns-else-rules_act : goal.returns-else-rules_act
returns-else-rules_act c = λ b F h s t W row.
    let m =
    rw c.if-rules_act.false at
    (c.rules_act.ensures b F h.states_in.grammar_in h.closures_in s t W row) in
    rw c.if-rules_act.false (state-fail b F m)

pub returns-then-rules_act : goal.returns-then-rules_act
returns-then-rules_act c = λ b F h s t W row.
    let m =
    rw c.if-rules_act.true at
    (c.rules_act.ensures b F h.states_in.grammar_in h.closures_in s t W row) in
    state-rest b F m (c.kernels_act.ensures b _ h.states_in s t (m.row refl))
