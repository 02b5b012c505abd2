use mathlib.Core.Path.{ap₂}
use mathlib.Core.Bool.{◌&&◌}
use Rattle.conditions.specs.DeclaredTests.{definitions_declared}
use Rattle.conditions.proofs.declared.definitions_declared.Goals as goal

pub returns : goal.returns
unfolding definitions_declared
returns c = record {
  for_all = λ b h. ap₂ ◌&&◌ (c.inherited_declared.ensures.for_all b h) (c.synthesized_declared.ensures.for_all b h);
}
