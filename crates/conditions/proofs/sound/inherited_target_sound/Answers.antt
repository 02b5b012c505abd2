use Rattle.conditions.specs.SoundLines.{inherited-line-asked}
use Rattle.conditions.proofs.sound.inherited_target_sound.Goals as goal

pub returns : goal.returns
returns c = record { for_all = λ x h. inherited-line-asked h (c.leaves_sound.ensures.for_all x h.leaves_there) }
