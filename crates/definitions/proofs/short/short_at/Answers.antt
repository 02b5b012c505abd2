use Rattle.definitions.specs.ExpressionsShort.{at-short}
use Rattle.definitions.proofs.short.short_at.Goals as goal

pub returns : goal.returns
returns c = at-short c.requires c.in_ok-j.ensures c.if-source-a-ne115.false
    c.in_ok-k.ensures
