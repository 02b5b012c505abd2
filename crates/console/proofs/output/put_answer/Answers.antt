use Rattle.std.proofs.Common.{arith}
use Rattle.console.specs.Printing.{printed}
use Rattle.console.specs.Output.{puts_then}
use Rattle.console.specs.Desk.{print_answer}
use Rattle.grammar.specs.Format.Printer.{bytes, literal}
use Rattle.console.proofs.output.put_answer.Goals as goal

pub returns-in-Ok : goal.returns-in-Ok
unfolding bytes literal print_answer
returns-in-Ok c =
    let few = rw c.in-Ok.is at c.requires.few in
    rw c.in-Ok.is (printed (puts_then c.put_rows-a.ensures c.put_last.ensures) (omega arith))

pub returns-in-Err : goal.returns-in-Err
returns-in-Err c = rw c.in-Err.is c.put_refused.ensures
