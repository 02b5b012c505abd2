use mathlib.Core.Path.{ap, sym}
use mathlib.Core.Bool.{Bool}
use Rattle.automaton.specs.ActionRows.{acted_code}
use Rattle.automaton.proofs.actions.acted.Goals as goal

pub returns-then-given : goal.returns-then-given
unfolding acted_code
returns-then-given c = let a = c.args in sym (ap (λ (t : Bool). acted_code a.old t a.action) c.if-given.true)

pub returns : goal.returns
unfolding acted_code
returns c = let a = c.args in sym (ap (λ (t : Bool). acted_code a.old t a.action) c.if-given.false)
