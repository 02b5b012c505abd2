use mathlib.Core.Path.{sym, ◌∙◌}
use Rattle.automaton.specs.StatesIn.{moves}
use Rattle.automaton.specs.Advances.{state-fail, state-rest}
use Rattle.automaton.proofs.go_rules.state_advances.Goals as goal

pub returns-else-kernels_advance : goal.returns-else-kernels_advance
returns-else-kernels_advance c = λ b F h s W.
    c.if-kernels_advance.false ∙ state-fail b F c.args.state (sym c.if-kernels_advance.false ∙ c.kernels_advance.ensures b (moves h) s)

pub returns-then-kernels_advance : goal.returns-then-kernels_advance
returns-then-kernels_advance c = λ b F h s W.
    state-rest b F c.args.state
    (sym c.if-kernels_advance.true ∙ c.kernels_advance.ensures b (moves h) s)
    (c.rules_advance.ensures b F h s W)
