use Rattle.text.proofs.Steps.{keyword-at}
use Rattle.text.proofs.source.Source.keyword.Goals as goal

pub returns : goal.returns
returns c = keyword-at _ _ _ _ _ _ c.word-c.ensures c.require.ensures
