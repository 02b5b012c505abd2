use Rattle.console.specs.Printing.{ROW_BYTES, rows_from}
use Rattle.console.specs.Output.{Putting}
use Rattle.console.proofs.output.put_rows.Given as goal

abbrev pub invariant-loop-k : goal.invariant-loop-k
invariant-loop-k l = Putting (rows_from l.count l.rows) ROW_BYTES l.count l.initial.out l.at l.k l.p l.out
