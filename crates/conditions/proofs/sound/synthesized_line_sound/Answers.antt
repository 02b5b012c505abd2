use mathlib.Core.Path.{◌∙◌}
use borrow.Author.Tests.{le-ltb}
use Rattle.conditions.specs.SoundLines.{synthesized-rule-refused, synthesized-refused}
use Rattle.conditions.proofs.sound.synthesized_line_sound.Goals as goal

pub returns-then-book-p : goal.returns-then-book-p
returns-then-book-p c = record { for_all = λ x h. synthesized-rule-refused h c.if-book-p.true }

pub returns-else-target : goal.returns-else-target
returns-else-target c = record {
  for_all = λ x h. let l = c.if-target.false in le-ltb _ _ l ∙ synthesized-refused h c.if-book-p.false l;
}
