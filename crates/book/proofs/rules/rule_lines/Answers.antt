use native.Mathlib.Numerals.{add-one}
use Rattle.text.specs.Numeral.{spelled}
use Rattle.grammar.specs.Format.Parse.{rule_lines}
use Rattle.lines.specs.Heads.{rule-head}
use Rattle.book.specs.Sections.{filling-start, filling-turn, filling-less, filling-done}
use Rattle.book.specs.Lines.{rule-shrinks}
use Rattle.book.proofs.rules.rule_lines.Goals as goal

pub loop-head-init : goal.loop-head-init
unfolding rule_lines
loop-head-init c = filling-start _ _ _ _ _ (rule-shrinks _) _ _ _ _

pub invariant_of-head : goal.invariant_of-head
unfolding spelled
invariant_of-head c = record { spells = rule-head }

pub returns-then-n-a : goal.returns-then-n-a
unfolding spelled
returns-then-n-a c = filling-done _ _ _ _ _ (rule-shrinks _) _ c.loop-head.invariant c.line_head-a.ensures c.if-n-a.true

pub loop-head-smaller : goal.loop-head-smaller
unfolding spelled
loop-head-smaller c = filling-less _ _ _ _ _ (rule-shrinks _) _ c.loop-head.invariant c.line_head-a.ensures c.if-n-a.false
    c.rule_line-p.ensures.remaining_is

pub loop-head-preserved : goal.loop-head-preserved
unfolding spelled
loop-head-preserved c = filling-turn _ _ _ _ _ (rule-shrinks _) _ c.loop-head.invariant c.line_head-a.ensures c.if-n-a.false
    c.rule_line-p.ensures (add-one _)
