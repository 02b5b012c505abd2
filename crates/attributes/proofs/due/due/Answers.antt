use mathlib.Core.Bool.{not}
use mathlib.Core.Path.{sym, ◌∙◌, ap}
use Rattle.attributes.specs.CheckingLaws.{due-absent, due-member}
use Rattle.attributes.proofs.due.due.Goals as goal

pub returns-then-not-meets : goal.returns-then-not-meets
returns-then-not-meets c = λ b slots H l K.
    due-absent H l slots _ c.word-rule.ensures c.word-position.ensures c.meets.ensures (ap not c.if-not-meets.true)

pub returns : goal.returns
returns c = λ b slots H l K.
    c.ready.ensures b slots _ H l K
    ∙ sym (due-member H l slots _ c.word-rule.ensures c.word-position.ensures c.meets.ensures (ap not c.if-not-meets.false))
