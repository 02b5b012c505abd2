use Rattle.text.specs.Numeral.{spelled}
use Rattle.grammar.specs.Format.Reader.{result, remaining}
use Rattle.lines.specs.Heads.{book-head}
use Rattle.book.specs.Header.{header}
use Rattle.book.proofs.header.header.Goals as goal

pub invariant_of-first : goal.invariant_of-first
unfolding spelled
invariant_of-first c = record { spells = book-head }

pub returns : goal.returns
unfolding header result remaining spelled
returns c = record { result_is = cc; remaining_is = cc }
