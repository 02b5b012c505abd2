use Rattle.std.proofs.Common.{arith}
use Rattle.console.specs.Printing.{printed}
use Rattle.console.specs.Desk.{print_answer}
use Rattle.grammar.specs.Format.Printer.{bytes, literal}
use Rattle.console.proofs.output.put_refused.Goals as goal

pub returns : goal.returns
unfolding bytes literal print_answer
returns c = printed c.put_last.ensures (omega arith)
