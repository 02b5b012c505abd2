use Rattle.conditions.specs.SoundLines.{synthesized-line-asked}
use Rattle.conditions.proofs.sound.synthesized_target_sound.Goals as goal

pub returns : goal.returns
returns c = record { for_all = λ x h. synthesized-line-asked h (c.leaves_sound.ensures.for_all x h.leaves_there) }
