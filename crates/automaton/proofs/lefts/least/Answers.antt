use Rattle.automaton.specs.Lefts.{least-is}
use Rattle.automaton.proofs.lefts.least.Goals as goal

pub returns : goal.returns
returns c = least-is c.args.rules c.ranges.rules.fits c.requires
