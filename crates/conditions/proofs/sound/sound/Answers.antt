use mathlib.Core.Path.{ap₂, ◌∙◌}
use mathlib.Core.Bool.{◌&&◌}
use Rattle.conditions.specs.SoundLines.{sound-parts}
use Rattle.conditions.proofs.sound.sound.Goals as goal

pub returns : goal.returns
returns c = record {
  for_all = λ b h. ap₂ ◌&&◌ (c.inherited_sound.ensures.for_all b h) (c.synthesized_sound.ensures.for_all b h) ∙ sound-parts b;
}
