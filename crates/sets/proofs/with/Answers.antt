use Rattle.sets.specs.Sets.{with}
use Rattle.sets.proofs.with.Goals as goal

pub returns : goal.returns
unfolding with
returns c = cc
