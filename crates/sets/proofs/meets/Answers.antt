use mathlib.Core.Path.{sym}
use Rattle.sets.proofs.Operations.{meets-and}
use Rattle.sets.proofs.meets.Goals as goal

pub returns : goal.returns
returns c = sym (meets-and c.args.a c.args.b c.ranges.a.fits c.ranges.b.fits)
