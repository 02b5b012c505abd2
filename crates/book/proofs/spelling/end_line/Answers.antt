use Rattle.text.specs.Numeral.{spelled}
use Rattle.grammar.specs.Format.Reader.{closing}
use Rattle.grammar.specs.Format.Parse.{end_line}
use Rattle.book.proofs.spelling.end_line.Goals as goal

pub returns : goal.returns
unfolding end_line closing spelled
returns c = cc
