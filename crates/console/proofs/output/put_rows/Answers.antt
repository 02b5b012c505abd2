use Rattle.console.specs.Printing.{rows_start, rows-turn, rows_end}
use Rattle.console.specs.Output.{puts-same, putting-turn, putting-end}
use Rattle.console.proofs.output.put_rows.Goals as goal

pub loop-k-preserved : goal.loop-k-preserved
loop-k-preserved c = putting-turn _ _ _ _ _ c.loop-k.invariant c.loop-k-test.true c.put_row-p.ensures c.put_row-p.auto.out
    (rows-turn _ _ _ c.loop-k-test.true)

pub returns : goal.returns
returns c = let args = c.args in
    puts-same (rows_start args.count args.rows.now)
    (putting-end _ _ _ _ _ c.loop-k.invariant c.loop-k-test.false (rows_end args.count args.rows.now))
