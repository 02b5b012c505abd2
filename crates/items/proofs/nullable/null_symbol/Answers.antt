use mathlib.Core.Path.{sym, ap, ◌∙◌}
use Rattle.std.proofs.lemmas.Bool.{lt-leb}
use Rattle.items.specs.GrammarOf.{terminal-of, nonterminal-of}
use Rattle.items.specs.Rests.{null_symbol}
use Rattle.items.proofs.nullable.null_symbol.Goals as goal

pub returns-then-word-ge32 : goal.returns-then-word-ge32
unfolding null_symbol
returns-then-word-ge32 c = c.has.ensures ∙ sym (ap (null_symbol _) (nonterminal-of _ c.if-word-ge32.true))

pub returns-else-word-ge32 : goal.returns-else-word-ge32
unfolding null_symbol
returns-else-word-ge32 c = lt-leb _ _ c.if-word-ge32.false ∙ sym (ap (null_symbol _) (terminal-of _ c.if-word-ge32.false))
