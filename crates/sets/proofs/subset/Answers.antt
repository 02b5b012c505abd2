use mathlib.Core.Path.{sym}
use Rattle.sets.proofs.Operations.{subset-and}
use Rattle.sets.proofs.subset.Goals as goal

pub returns : goal.returns
returns c = sym (subset-and c.args.a c.args.b c.ranges.a.fits c.ranges.b.fits)
