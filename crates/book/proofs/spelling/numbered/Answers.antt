use Rattle.text.specs.Numeral.{spelled}
use Rattle.grammar.specs.Format.Reader.{result, remaining}
use Rattle.book.specs.Numbered.{numbered}
use Rattle.book.proofs.spelling.numbered.Goals as goal

pub returns : goal.returns
unfolding numbered result remaining spelled
returns c = record { result_is = cc; remaining_is = cc }
