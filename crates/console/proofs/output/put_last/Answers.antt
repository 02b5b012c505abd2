use Rattle.console.specs.Output.{puts_then}
use Rattle.grammar.specs.Format.Printer.{bytes, literal}
use Rattle.console.proofs.output.put_last.Goals as goal

pub returns : goal.returns
unfolding bytes literal
returns c = puts_then c.put_bytes-a.ensures (puts_then c.put_number-b.ensures c.put_bytes.ensures)
