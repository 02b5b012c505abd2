use Rattle.definitions.specs.ExpressionsShort.{pick-short}
use Rattle.definitions.proofs.short.short_pick.Goals as goal

pub returns-then-head-source : goal.returns-then-head-source
returns-then-head-source c = pick-short c.requires.0 c.requires.1 c.if-head-source.true
