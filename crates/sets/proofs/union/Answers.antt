use mathlib.Core.Path.{sym}
use Rattle.sets.proofs.Operations.{union-or}
use Rattle.sets.proofs.union.Goals as goal

pub returns : goal.returns
returns c = sym (union-or c.args.a c.args.b c.ranges.a.fits c.ranges.b.fits)
