use mathlib.Core.Path.{◌∙◌}
use Rattle.grammar.specs.Format.Parse.{is_before}
use Rattle.book.specs.Order.{key-before}
use Rattle.book.proofs.order.ascends.Goals as goal

pub returns-in-None : goal.returns-in-None
unfolding is_before
returns-in-None c = rw c.in-None.is

pub returns-in-Some : goal.returns-in-Some
returns-in-Some c = rw c.in-Some.is (c.lt.ensures ∙ key-before _ _)
