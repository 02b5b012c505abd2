use Rattle.items.specs.Rests.{dead-is}
use Rattle.items.proofs.reach.dead_end.Goals as goal

pub returns : goal.returns
returns c = λ F β R. dead-is F β R
