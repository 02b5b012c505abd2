use mathlib.Core.Path.{sym, ◌∙◌}
use Rattle.text.proofs.Steps.{mark-out, mark-not, mark-at}
use Rattle.text.proofs.source.Source.mark.Goals as goal

pub returns-then-n-at : goal.returns-then-n-at
returns-then-n-at c = mark-out _ _ _ _ c.if-n-at.true c.misspelt.ensures

pub returns-then-class-wanted : goal.returns-then-class-wanted
returns-then-class-wanted c = mark-not _ _ _ _ c.if-n-at.false (λ q. c.if-class-wanted.true (c.class.ensures ∙ q)) c.misspelt-then-class-wanted.ensures

pub returns : goal.returns
returns c = mark-at _ _ _ c.if-n-at.false (sym c.class.ensures ∙ c.if-class-wanted.false)
