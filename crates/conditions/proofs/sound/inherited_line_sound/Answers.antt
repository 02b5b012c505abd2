use mathlib.Core.Path.{◌∙◌}
use Rattle.conditions.specs.SoundLines.{inherited-rule-refused, inherited-refused, inherited-there}
use Rattle.conditions.proofs.sound.inherited_line_sound.Goals as goal

pub returns-then-book-p : goal.returns-then-book-p
returns-then-book-p c = record { for_all = λ x h. inherited-rule-refused h c.if-book-p.true }

pub inherited_target_sound-requires : goal.inherited_target_sound-requires
inherited_target_sound-requires c = let (x, h) = c.requires in (x, inherited-there h c.if-book-p.false c.one_to.ensures c.if-target.true)

pub returns-then-target : goal.returns-then-target
returns-then-target c = record {
  for_all = λ x h. c.inherited_target_sound.ensures.for_all x (inherited-there h c.if-book-p.false c.one_to.ensures c.if-target.true);
}

pub returns-else-target : goal.returns-else-target
returns-else-target c = record {
  for_all = λ x h. c.if-target.false ∙ inherited-refused h c.if-book-p.false c.one_to.ensures c.if-target.false;
}
