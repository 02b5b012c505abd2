use Rattle.console.specs.Output.{puts_then}
use Rattle.console.specs.Desk.{print_word}
use Rattle.grammar.specs.Format.Printer.{bytes, literal}
use Rattle.console.proofs.output.put_word.Goals as goal

pub returns : goal.returns
unfolding bytes literal print_word
returns c = puts_then c.put_bytes-a.ensures c.put_number.ensures
