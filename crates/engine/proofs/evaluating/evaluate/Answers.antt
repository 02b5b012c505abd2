use Rattle.std.proofs.Common.{ℕ, sym, ap, ◌∙◌, replicate}
use Rattle.attempts.specs.Evaluations.{evaluates-taken, evaluates-cleared}
use Rattle.engine.proofs.evaluating.evaluate.Goals as goal

pub returns-then-is_err : goal.returns-then-is_err
returns-then-is_err c =
    evaluates-cleared c.evaluate-answer.ensures (sym c.is_err.ensures.value ∙ c.if-is_err.true)
    (c.fill.ensures.after (λ _ e. e) ∙ ap (λ (m : ℕ). replicate m 0) c.evaluate-answer.auto.rows)

pub returns-else-is_err : goal.returns-else-is_err
returns-else-is_err c = evaluates-taken c.evaluate-answer.ensures (sym c.is_err.ensures.value ∙ c.if-is_err.false)
