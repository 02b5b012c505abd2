use mathlib.Core.Path.{refl}
use native.Mathlib.Omega.{arith}
use Rattle.items.specs.KernelLines.{line-rule, line-told}
use Rattle.items.proofs.closure.line.Goals as goal

pub returns : goal.returns
returns c = let a = c.args in
    λ b F H h.
    line-told H a.i h _ _ _ c.word-rule.ensures
    c.word-dot.ensures refl
    (c.derive.ensures b F H.grammar_in
    (omega (arith, c.word-rule.ensures, line-rule H a.i h)))
