use Rattle.text.specs.Numeral.{spelled}
use Rattle.kernels.proofs.lookahead.lookahead.Goals as goal

pub returns-then-source-a : goal.returns-then-source-a
unfolding spelled
returns-then-source-a c = record { from = _; outside = c.if-source-a.true; name_is = c.naming-a.ensures }

pub returns : goal.returns
unfolding spelled
returns c = record { from = _; inside = c.if-source-a.false; name_is = c.naming-a.ensures; number_is = c.number.ensures }
