use Prim.Native.Nat.{◌*◌}
use native.Mathlib.Omega.{arith}
use Rattle.cells.specs.CellsLaws.{cleared-filled}
use Rattle.stack.specs.Records.{stored-cleared}
use Rattle.stack.proofs.records.clear_record.Goals as goal

pub returns : goal.returns
returns c =
    rw (cleared-filled (33 * c.args.height) 33 c.args.records.now c.requires (c.fill.ensures.after (λ y e. e)))
    (stored-cleared (33 * c.args.height) 33 _ (omega (arith, c.requires)))
