use mathlib.Core.Path.{sym, ◌∙◌}
use Rattle.automaton.specs.Comes.{lines_more, lines-fail, lines-all}
use Rattle.automaton.proofs.go_rules.lines_come.Goals as goal

pub returns-then-not-line_comes : goal.returns-then-not-line_comes
returns-then-not-line_comes c = lines-fail c.loop-i.invariant c.loop-i-test.true
    (λ b F h g l. sym c.if-not-line_comes.true ∙ c.line_comes.ensures b F h g l)

pub loop-i-preserved : goal.loop-i-preserved
loop-i-preserved c = lines_more c.loop-i.invariant c.loop-i-test.true
    (λ b F h g l. sym c.if-not-line_comes.false ∙ c.line_comes.ensures b F h g l)

pub returns : goal.returns
returns c = lines-all c.loop-i.invariant c.loop-i-test.false
