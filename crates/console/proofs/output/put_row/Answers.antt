use Rattle.console.specs.Output.{puts_then, puts-most}
use Rattle.console.specs.Desk.{print_row}
use Rattle.grammar.specs.Format.Printer.{bytes, literal}
use native.Mathlib.Omega.{arith}
use Rattle.console.proofs.output.put_row.Goals as goal

pub returns : goal.returns
unfolding bytes literal print_row
returns c = puts-most (puts_then c.put_bytes-a.ensures (puts_then c.put_words-b.ensures c.put_bytes.ensures))
    (omega (arith, c.requires.0))
