use Rattle.definitions.specs.ExpressionsShort.{own-short}
use Rattle.definitions.proofs.short.short_own.Goals as goal

pub returns : goal.returns
returns c = own-short c.requires c.if-source-at-ne105.false c.in_ok-k.ensures
