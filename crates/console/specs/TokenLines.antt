-- Tokens that fit a line, and their lines as they are printed; that they are read so stands in proofs/TokenLines.antt.
-- Assumes nothing.
use Rattle.std.specs.Prelude.{List}
use Rattle.grammar.specs.Evaluator.Tree.{Token}
use Rattle.grammar.specs.Format.Printer.{Printer, each}
use Rattle.grammar.specs.Format.Ordered.{Fits}
use Rattle.console.specs.Lines.{print_token}

pub record TokenFits (k : Token) : Type 0 where
  pub kind_fits : Fits k.kind
  pub value_fits : Fits k.value

abbrev pub print_tokens : List Token → Printer
print_tokens = each (λ k. print_token k.kind k.value)
