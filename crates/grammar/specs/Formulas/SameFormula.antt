-- The test of formulas decides equality: "the same formula, symbol by symbol" (01, "Partial states and chains"). Proofs go by this law alone.
-- Assumes nothing.
use Rattle.std.proofs.Math.Decide.{ℕ_discrete}
use Rattle.std.specs.Prelude.{◌≡◌, true, false}
use Rattle.grammar.specs.Conditions.Decides.{Decides, true-decides, false-decides}
use Rattle.grammar.specs.Data.Term.{Term-discrete, Operator-discrete}
use Rattle.grammar.specs.Formulas.Formula.{Formula, Stack-discrete, Part-discrete, Leaf-discrete}
use Rattle.grammar.specs.Formulas.Slots.{same_formula}

pub same-formula : (f g : Formula) → Decides (same_formula f g) (f ≡ g)
unfolding same_formula
same-formula f g = by (Term-discrete ℕ_discrete (Leaf-discrete Stack-discrete ℕ_discrete (Part-discrete ℕ_discrete)) Operator-discrete f g)
  where
    by : (d : Dec (f ≡ g)) → Decides (elim d [ yes e ↦ true | no n ↦ false ]) (f ≡ g)
    by (yes e) = true-decides e
    by (no n) = false-decides n
