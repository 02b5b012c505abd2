use Rattle.console.specs.Lines.{numbers_in, token-ended, token-unended}
use Rattle.text.specs.Numeral.{spelled}
use Rattle.lines.specs.Heads.{token-head}
use Rattle.console.proofs.input.token_line.Goals as goal

pub invariant_of-head : goal.invariant_of-head
unfolding spelled
invariant_of-head c = record { spells = token-head }

pub returns-then-end-line : goal.returns-then-end-line
unfolding spelled numbers_in
returns-then-end-line c = token-unended _ _ c.line_head-a.ensures c.number-kind.ensures
    c.mark-b.ensures c.number-value.ensures c.closing-end.ensures c.if-end-line.true

pub returns : goal.returns
unfolding spelled numbers_in
returns c = token-ended _ _ c.line_head-a.ensures c.number-kind.ensures
    c.mark-b.ensures c.number-value.ensures c.closing-end.ensures c.if-end-line.false
