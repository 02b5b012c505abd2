use mathlib.Core.Path.{◌∙◌, sym}
use Rattle.conditions.specs.Answers.{and-asked, and-stop}
use Rattle.conditions.specs.AskedLaws.{stored-kept}
use Rattle.conditions.specs.LimitLaws.{numbers_room, limits-parts}
use Rattle.conditions.proofs.limits.within_limits.Goals as goal

pub lines_within-requires : goal.lines_within-requires
lines_within-requires c = let (b, h) = c.requires in
    (b, stored-kept h (numbers_room b (sym (c.numbers_within.ensures.for_all b h.counted) ∙ c.if-numbers_within.true)))

pub returns-then-numbers_within : goal.returns-then-numbers_within
returns-then-numbers_within c = record {
  for_all = λ b h.
      let e = c.numbers_within.ensures.for_all b h.counted in
      and-asked e c.if-numbers_within.true (c.lines_within.ensures.for_all b (stored-kept h (numbers_room b (sym e ∙ c.if-numbers_within.true))))
      ∙ limits-parts b;
}

pub returns-else-numbers_within : goal.returns-else-numbers_within
returns-else-numbers_within c = record {
  for_all = λ b h. and-stop _ (c.numbers_within.ensures.for_all b h.counted) c.if-numbers_within.false ∙ limits-parts b;
}
