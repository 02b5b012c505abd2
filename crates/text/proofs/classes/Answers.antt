use mathlib.Core.Path.{refl}
use Rattle.text.specs.Table.{table}
use Rattle.text.proofs.classes.Goals as goal

pub returns : goal.returns
unfolding table
returns c = refl
