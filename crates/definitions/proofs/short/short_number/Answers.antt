use native.Mathlib.Omega.{arith}
use Rattle.definitions.specs.ExpressionsShort.{number_short}
use Rattle.definitions.proofs.short.short_number.Goals as goal

pub returns : goal.returns
returns c = number_short (omega arith) c.in_ok-n.ensures
