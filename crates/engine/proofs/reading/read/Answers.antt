use Rattle.std.proofs.Common.{ℕ, sym, ap, ◌∙◌, replicate}
use Rattle.grammar.specs.Format.Packing.{pack}
use Rattle.attempts.specs.Readings.{read_number, taken-none, refused-some, read_taken, read-refused, taken-fits}
use Rattle.engine.proofs.reading.read.Goals as goal

pub pack-requires : goal.pack-requires
pack-requires c =
    taken-fits _ _ (c.check-answer.ensures ∙ ap (read_number _) (sym c.check-answer.auto.words))
    (taken-none _ (sym c.is_ok.ensures.value ∙ c.if-is_ok.true))

pub returns-then-is_ok : goal.returns-then-is_ok
returns-then-is_ok c = let text = c.args.text.now in
    read_taken _ _ c.check-answer.ensures (taken-none _ (sym c.is_ok.ensures.value ∙ c.if-is_ok.true))
    (c.pack.ensures ∙ ap (λ (m : ℕ). pack m text) c.check-answer.auto.words)

pub returns-else-is_ok : goal.returns-else-is_ok
returns-else-is_ok c =
    read-refused _ _ c.check-answer.ensures (refused-some _ (sym c.is_ok.ensures.value ∙ c.if-is_ok.false))
    (c.fill.ensures.after (λ _ e. e) ∙ ap (λ (m : ℕ). replicate m 0) c.check-answer.auto.words)
