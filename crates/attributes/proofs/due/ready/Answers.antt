use mathlib.Core.Path.{◌∙◌}
use Rattle.attributes.specs.CheckingLaws.{ready-behind, ready-front}
use Rattle.attributes.proofs.due.ready.Goals as goal

pub returns-then-word-ne1 : goal.returns-then-word-ne1
returns-then-word-ne1 c = λ b slots masks H l K. ready-behind H l slots c.word.ensures c.if-word-ne1.true

pub returns : goal.returns
returns c = λ b slots masks H l K.
    c.subset.ensures ∙ ready-front H l slots c.word.ensures c.if-word-ne1.false K c.word-rule.ensures c.word-left.ensures
