use Rattle.sets.proofs.Operations.{bit-not}
use Rattle.sets.proofs.others.Goals as goal

pub returns : goal.returns
returns c = λ i h. bit-not c.args.s i c.ranges.s.fits h
