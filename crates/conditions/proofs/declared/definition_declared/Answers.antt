use mathlib.Core.Path.{◌∙◌, refl}
use borrow.Author.Tests.{lt-ltb, le-ltb}
use Rattle.conditions.specs.Answers.{and-asked, and-stop}
use Rattle.conditions.specs.DeclaredLaws.{leaves_of, definition-asked, rule-refused}
use Rattle.conditions.proofs.declared.definition_declared.Goals as goal

pub returns-then-book-p : goal.returns-then-book-p
returns-then-book-p c = record { for_all = λ x h. rule-refused h _ c.if-book-p.true }

pub returns-then-definitions-i : goal.returns-then-definitions-i
returns-then-definitions-i c = record {
  for_all = λ x h. let l = c.if-book-p.false in
      and-asked refl (lt-ltb _ _ c.if-definitions-i.true) (c.leaves_declared.ensures.for_all x (leaves_of h l)) ∙ definition-asked h _ l;
}

pub returns-else-definitions-i : goal.returns-else-definitions-i
returns-else-definitions-i c = record { for_all = λ x h. and-stop _ refl (le-ltb _ _ c.if-definitions-i.false) ∙ definition-asked h _ c.if-book-p.false }
