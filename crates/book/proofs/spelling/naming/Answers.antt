use Rattle.grammar.specs.Format.Reader.{naming}
use Rattle.book.proofs.spelling.naming.Goals as goal

pub returns : goal.returns
unfolding naming
returns c = cc
