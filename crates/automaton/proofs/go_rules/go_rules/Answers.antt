use mathlib.Core.Path.{sym, ◌∙◌}
use Rattle.automaton.specs.StatesIn.{items}
use Rattle.automaton.specs.GoRules.{go-fail, go-rest}
use Rattle.automaton.proofs.go_rules.go_rules.Goals as goal

pub returns-else-states_advance : goal.returns-else-states_advance
returns-else-states_advance c = λ b F h g l q W.
    c.if-states_advance.false
    ∙ go-fail h.states_in.grammar_in.declared F q (sym c.if-states_advance.false ∙ c.states_advance.ensures b F h q W)

pub returns-then-states_advance : goal.returns-then-states_advance
returns-then-states_advance c = λ b F h g l q W.
    go-rest h.states_in.grammar_in.declared F q
    (sym c.if-states_advance.true ∙ c.states_advance.ensures b F h q W)
    (c.lines_come.ensures b F (items h) g l)
