use mathlib.Core.Path.{refl}
use Rattle.grammar.specs.Conditions.Decides.{one_to}
use Rattle.conditions.proofs.limits.one_to.Goals as goal

pub returns : goal.returns
unfolding one_to
returns c = refl
