use mathlib.Core.Path.{refl}
use Rattle.sets.specs.Sets.{empty}
use Rattle.sets.proofs.empty.Goals as goal

pub returns : goal.returns
unfolding empty
returns c = refl
