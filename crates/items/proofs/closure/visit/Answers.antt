use Rattle.items.specs.ClosurePasses.{rule_told}
use Rattle.items.proofs.closure.visit.Goals as goal

pub returns : goal.returns
returns c = λ b F H p.
    rule_told H c.args.rule p
    c.word-left.result c.word-left.ensures
    (c.derive.ensures b F H p)
