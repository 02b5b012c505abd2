use mathlib.Core.Path.{◌∙◌}
use borrow.Author.Tests.{eq-eqb}
use Rattle.automaton.specs.StatesIn.{moves, items}
use Rattle.automaton.specs.Advances.{rule-idle, rule-busy}
use Rattle.automaton.proofs.go_rules.rule_advances.Goals as goal

pub returns-then-set-eq0 : goal.returns-then-set-eq0
returns-then-set-eq0 c = λ b F h s. eq-eqb _ _ c.if-set-eq0.true ∙ rule-idle (items h) s c.word.ensures c.if-set-eq0.true

pub returns-else-set-eq0 : goal.returns-else-set-eq0
returns-else-set-eq0 c = λ b F h s. rule-busy (items h) s c.word.ensures c.if-set-eq0.false (c.advances.ensures b (moves h) s)
