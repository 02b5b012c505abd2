use Rattle.grammar.specs.Format.Parse.{is_before}
use Rattle.book.specs.Order.{before-one}
use Rattle.kernels.proofs.lookaheads.follows.Goals as goal

pub returns-in-None : goal.returns-in-None
unfolding is_before
returns-in-None c = rw c.in-None.is

pub returns-in-Some : goal.returns-in-Some
returns-in-Some c = rw c.in-Some.is (before-one _ _)
