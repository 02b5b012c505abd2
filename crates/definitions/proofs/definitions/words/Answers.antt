use Rattle.definitions.specs.DefinitionsLoop.{worded}
use Rattle.definitions.proofs.definitions.words.Goals as goal

pub returns : goal.returns
returns c = worded _ c.mark-a.ensures c.expression-nodes.ensures (rw c.requires.1 at c.fill.ensures.after (λ y e. e)) c.closing.ensures
