use Rattle.definitions.specs.ExpressionsLaws.{shows-bracket, shows-number}
use Rattle.definitions.proofs.brackets.any_begun.Goals as goal

pub returns-then-a-source : goal.returns-then-a-source
returns-then-a-source c = shows-bracket _ c.mark-a.ensures _ c.if-a-source.true c.word-word.ensures c.mark-b.ensures c.bracket.ensures

pub returns : goal.returns
returns c = shows-number _ c.mark-a.ensures c.if-a-source.false c.number-n.ensures
