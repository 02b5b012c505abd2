use Rattle.conditions.specs.LimitTests.{numbers_within}
use Rattle.conditions.proofs.limits.numbers_within.Goals as goal

pub returns : goal.returns
unfolding numbers_within
returns c = record { for_all = λ b h. cc }
