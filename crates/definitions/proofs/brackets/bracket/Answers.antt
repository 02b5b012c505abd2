use mathlib.Core.Path.{sym, ◌∙◌}
use native.Mathlib.Omega.{arith}
use Rattle.text.specs.Numeral.{spelled}
use Rattle.definitions.specs.ExpressionsLaws.{bracket-opens, bracket-lost}
use Rattle.definitions.proofs.brackets.bracket.Goals as goal

pub returns-in-Some : goal.returns-in-Some
returns-in-Some c = bracket-opens _ _ _ c.in-Some.ensures

pub returns-in_default-word : goal.returns-in_default-word
unfolding spelled
returns-in_default-word c =
    bracket-lost _ _ _ (sym c.in_default.is ∙ c.operator_named.ensures) (λ e. omega arith) (λ e. omega arith) (λ e. omega arith) (omega arith)
