use mathlib.Core.Path.{refl}
use Rattle.conditions.specs.DeclaredTests.{start_code}
use Rattle.conditions.proofs.declared.start_declared.Goals as goal

pub returns : goal.returns
unfolding start_code
returns c = refl
