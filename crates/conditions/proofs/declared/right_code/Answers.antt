use mathlib.Core.Path.{sym, ◌∙◌}
use Rattle.conditions.specs.SymbolWords.{right_low, right-high}
use Rattle.conditions.proofs.declared.right_code.Goals as goal

pub returns-then-code-lt32 : goal.returns-then-code-lt32
returns-then-code-lt32 c = c.one_to.ensures ∙ sym (right_low c.args.book c.args.code c.if-code-lt32.true)

pub returns-else-code-lt32 : goal.returns-else-code-lt32
returns-else-code-lt32 c = c.one_to-else-code-lt32.ensures ∙ sym (right-high c.args.book c.args.code c.if-code-lt32.false)
