use Rattle.grammar.specs.Format.Reader.{closing}
use Rattle.book.proofs.spelling.closing.Goals as goal

pub returns : goal.returns
unfolding closing
returns c = cc
