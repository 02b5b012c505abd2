use mathlib.Core.Path.{sym, ◌∙◌}
use native.Mathlib.Omega.{arith}
use Rattle.automaton.specs.KernelWords.{follows-front, follows_same, follows_next}
use Rattle.automaton.proofs.kernel_rules.line_right.Goals as goal

pub returns-in_default : goal.returns-in_default
returns-in_default c = λ b H p h. follows-front H c.args.i h (sym c.in_default.is ∙ c.symbol_before.ensures b H h)

pub returns-then-state-last : goal.returns-then-state-last
returns-then-state-last c = λ b H p h.
    rw c.eq.ensures
    (follows_same H c.args.i h (sym c.in-Some.is ∙ c.symbol_before.ensures b H h)
    (c.start_or_other.ensures b.kernels H.spelled_in h) c.if-not-start_or_other.false c.if-state-last.true
    (c.symbol_before-then-state-last.ensures b H (omega arith)))

pub returns : goal.returns
returns c = λ b H p h.
    follows_next H c.args.i h (sym c.in-Some.is ∙ c.symbol_before.ensures b H h)
    (c.start_or_other.ensures b.kernels H.spelled_in h) c.if-not-start_or_other.false c.if-state-last.false
