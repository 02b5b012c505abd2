use mathlib.Core.Path.{◌∙◌, ap₂, sym}
use mathlib.Core.Bool.{◌&&◌}
use borrow.Author.Tests.{eq-eqb}
use native.Mathlib.Omega.{arith}
use Rattle.conditions.specs.DeclaredTests.{rule_declared}
use Rattle.conditions.specs.DeclaredLaws.{left-asked, left-first}
use Rattle.conditions.proofs.declared.rule_declared.Goals as goal
use Rattle.conditions.proofs.declared.rule_declared.Goals.{then-p-eq0, else-p-eq0}

pub returns : goal.returns
unfolding rule_declared
returns c = record {
  for_all = λ b h.
      ap₂ ◌&&◌ (elim c.if-p-eq0.branch [
        | then-p-eq0 w ↦ w.result-is ∙ (eq-eqb _ _ w.if-p-eq0.true ∙ sym (left-first _ b (omega (arith, w.if-p-eq0.true))))
        | else-p-eq0 w ↦ w.result-is ∙ left-asked h w.if-p-eq0.false w.one_to.ensures
      ]) (c.right_declared.ensures.for_all b h);
}
