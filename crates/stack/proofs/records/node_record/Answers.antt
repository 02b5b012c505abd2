use native.Mathlib.Omega.{arith}
use Rattle.stack.specs.PutValues.{left-stored}
use Rattle.stack.proofs.records.node_record.Goals as goal

pub returns : goal.returns
returns c = rw c.put_values.ensures (left-stored c.requires.1 c.clear_record.ensures (omega (arith, c.requires.0)))
