use Rattle.book.specs.Lines.{rule-steps}
use Rattle.book.proofs.rules.rule_line.Goals as goal

pub returns : goal.returns
returns c = rule-steps _ _ c.left_side-left.ensures c.right_side-symbols.ensures c.closing.ensures c.put_line.ensures
