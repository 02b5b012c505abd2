use Rattle.attempts.specs.Evaluations.{asked-rows, asked-odd, asked-long, asked-kinds, asked-all}
use Rattle.attempts.proofs.evaluating.asked.Goals.{then-tokens-ne0-via-then-tokens-ne0, then-tokens-ne0-via-else-tokens-ne0+then-tokens}
use Rattle.attempts.proofs.evaluating.asked.Goals as goal

pub returns-then-lent-ne-PAGE_WORDS : goal.returns-then-lent-ne-PAGE_WORDS
returns-then-lent-ne-PAGE_WORDS c = asked-rows _ _ _ c.if-lent-ne-PAGE_WORDS.true

pub returns-then-tokens-ne0 : goal.returns-then-tokens-ne0
returns-then-tokens-ne0 c =
    elim c.then-tokens-ne0.branch [
      | then-tokens-ne0-via-then-tokens-ne0 w ↦ asked-odd _ _ _ c.if-lent-ne-PAGE_WORDS.false w.if-tokens-ne0.true
      | then-tokens-ne0-via-else-tokens-ne0+then-tokens w ↦ asked-long _ _ _ c.if-lent-ne-PAGE_WORDS.false w.if-tokens-ne0.false w.if-tokens.true
    ]

pub returns-then-not-kinds_right : goal.returns-then-not-kinds_right
returns-then-not-kinds_right c =
    asked-kinds _ _ _ c.if-lent-ne-PAGE_WORDS.false c.if-tokens-ne0.false c.if-tokens.false c.kinds_right.ensures c.if-not-kinds_right.true

pub returns : goal.returns
returns c = record {
  says = asked-all _ _ _ c.if-lent-ne-PAGE_WORDS.false c.if-tokens-ne0.false c.if-tokens.false c.kinds_right.ensures c.if-not-kinds_right.false;
}
