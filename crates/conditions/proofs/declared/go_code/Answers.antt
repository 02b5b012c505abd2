use mathlib.Core.Path.{◌∙◌}
use borrow.Author.Tests.{eq-eqb}
use Rattle.conditions.specs.SymbolWords.{go-first, go-other}
use Rattle.conditions.proofs.declared.go_code.Goals as goal

pub returns-then-code-eq32 : goal.returns-then-code-eq32
returns-then-code-eq32 c = eq-eqb _ _ c.if-code-eq32.true ∙ go-first c.args.book c.args.code c.if-code-eq32.true

pub returns-else-code-eq32 : goal.returns-else-code-eq32
returns-else-code-eq32 c = c.right_code.ensures ∙ go-other c.args.book c.args.code c.if-code-eq32.false
