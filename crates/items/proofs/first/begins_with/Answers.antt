use mathlib.Core.Path.{sym, ap, ◌∙◌}
use Rattle.items.specs.GrammarOf.{terminal-of, nonterminal-of}
use Rattle.items.specs.Rests.{begins_with}
use Rattle.items.proofs.first.begins_with.Goals as goal

pub returns-then-word-lt32 : goal.returns-then-word-lt32
unfolding begins_with
returns-then-word-lt32 c = c.single.ensures ∙ sym (ap (begins_with _) (terminal-of _ c.if-word-lt32.true))

pub returns : goal.returns
unfolding begins_with
returns c = sym (ap (begins_with _) (nonterminal-of _ c.if-word-lt32.false))
