use mathlib.Core.Path.{sym, ◌∙◌}
use Rattle.automaton.specs.HoldsItem.{searched-more, searched-found, searched-all}
use Rattle.automaton.proofs.go_rules.holds_item.Goals as goal

pub returns-then-is_item : goal.returns-then-is_item
returns-then-is_item c = searched-found c.loop-i.invariant c.loop-i-test.true (sym c.is_item.ensures ∙ c.if-is_item.true)

pub loop-i-preserved : goal.loop-i-preserved
loop-i-preserved c = searched-more c.loop-i.invariant c.loop-i-test.true (sym c.is_item.ensures ∙ c.if-is_item.false)

pub returns : goal.returns
returns c = searched-all c.loop-i.invariant c.loop-i-test.false
