use Rattle.console.specs.Kept.{kept_more, kept_full}
use Rattle.console.proofs.input.put_token.Goals as goal

pub returns-then-count-lt-KEPT_TOKENS : goal.returns-then-count-lt-KEPT_TOKENS
returns-then-count-lt-KEPT_TOKENS c = λ ns h.
    kept_more _ _ h c.put_line.ensures c.requires c.if-count-lt-KEPT_TOKENS.true

pub returns : goal.returns
returns c = λ ns h. kept_full _ _ h c.put_line.ensures c.if-count-lt-KEPT_TOKENS.false
