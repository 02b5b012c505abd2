use mathlib.Core.Path.{◌∙◌, sym}
use native.Mathlib.Omega.{arith}
use Rattle.conditions.specs.Answers.{and-asked, and-stop}
use Rattle.conditions.specs.DeclaredLaws.{declared-place, position-asked, inherited-parts}
use Rattle.conditions.proofs.declared.inherited_line_declared.Goals as goal

pub bounds-rules-p : goal.bounds-rules-p
bounds-rules-p c = let (x, h) = c.requires in
    omega (arith, declared-place h c.args.book.inherited (sym (c.definition_declared.ensures.for_all x h) ∙ c.if-definition_declared.true))

pub returns-then-definition_declared : goal.returns-then-definition_declared
returns-then-definition_declared c = record {
  for_all = λ x h.
      let e = c.definition_declared.ensures.for_all x h in
      and-asked e c.if-definition_declared.true (c.one_to.ensures ∙ position-asked h (sym e ∙ c.if-definition_declared.true)) ∙ sym (inherited-parts h);
}

pub returns-else-definition_declared : goal.returns-else-definition_declared
returns-else-definition_declared c = record {
  for_all = λ x h. and-stop _ (c.definition_declared.ensures.for_all x h) c.if-definition_declared.false ∙ sym (inherited-parts h);
}
