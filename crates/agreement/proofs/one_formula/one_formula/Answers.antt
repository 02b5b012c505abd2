use mathlib.Core.Path.{refl, sym, ◌∙◌}
use native.Mathlib.Omega.{arith}
use Rattle.attributes.specs.FormulasHeld.{owned-all, owner_low}
use Rattle.agreement.specs.OneFormula.{states-told}
use Rattle.agreement.proofs.one_formula.one_formula.Goals as goal

pub owned-requires : goal.owned-requires
owned-requires c = let g = c.requires.0 in
    ((g.0.inherited_owners, g.3, sym g.4, λ K l. owner_low g.2.formulas_held K (omega (arith, l, g.4))), refl)

pub returns : goal.returns
returns c = λ b begins W I e G.
    c.states_right.ensures.answer b begins W (owned-all e (c.owned.ensures b.inherited_owners I (sym e))) G ∙ states-told W.formulas_held
