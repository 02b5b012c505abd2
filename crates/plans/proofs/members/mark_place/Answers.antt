use Rattle.plans.specs.Places.{places_behind, places-front}
use Rattle.plans.proofs.members.mark_place.Goals as goal

pub returns-then-position-ne1 : goal.returns-then-position-ne1
returns-then-position-ne1 c = λ b owned masks H l L.
    places_behind H l _ L c.word-rule.ensures c.word-position.ensures c.if-position-ne1.true

pub returns : goal.returns
returns c = λ b owned masks H l L.
    places-front H l _ L c.word-rule.ensures c.word-position.ensures c.word-left.ensures
