use mathlib.Core.Path.{sym, ◌∙◌}
use native.Mathlib.Omega.{arith}
use Rattle.text.proofs.RestLaws.{rest_out, must-true, must-false}
use Rattle.text.proofs.source.Source.require.Goals as goal

pub returns-then-fine : goal.returns-then-fine
returns-then-fine c = sym (must-true _ _ c.if-fine.true)

pub returns : goal.returns
returns c = rest_out _ _ (omega arith) ∙ sym (must-false _ _ c.if-fine.false)
