use Rattle.definitions.specs.ExpressionsShort.{val-short}
use Rattle.definitions.proofs.short.short_val.Goals as goal

pub returns : goal.returns
returns c = val-short c.requires c.in_ok-j.ensures
