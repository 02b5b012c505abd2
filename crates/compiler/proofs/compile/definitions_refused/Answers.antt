use mathlib.Core.Path.{sym, ◌∙◌}
use Rattle.book.specs.Refusals.{number_of}
use Rattle.compiler.specs.Conditions.{refused-declared, refused-undeclared}
use Rattle.compiler.proofs.compile.definitions_refused.Goals as goal

pub returns-then-definitions_declared : goal.returns-then-definitions_declared
unfolding number_of
returns-then-definitions_declared c = λ b h. sym (refused-declared b (sym (c.definitions_declared.ensures.for_all b h) ∙ c.if-definitions_declared.true))

pub returns : goal.returns
unfolding number_of
returns c = λ b h. sym (refused-undeclared b (sym (c.definitions_declared.ensures.for_all b h) ∙ c.if-definitions_declared.false))
