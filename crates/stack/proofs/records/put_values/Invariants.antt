use Prim.Native.Nat.{◌+◌, ◌*◌}
use Rattle.stack.specs.PutValues.{PuttingLines}
use Rattle.stack.proofs.records.put_values.Given as goal

abbrev pub invariant-loop-i : goal.invariant-loop-i
invariant-loop-i l = PuttingLines l.definitions l.spans l.values l.rule (33 * l.height + 1) l.initial.records l.i l.records
