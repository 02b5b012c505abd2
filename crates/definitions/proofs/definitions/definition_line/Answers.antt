use Rattle.definitions.specs.DefinitionsLoop.{line_kept}
use Rattle.definitions.specs.Definitions.{ascending}
use Rattle.definitions.proofs.definitions.definition_line.Goals as goal

pub returns : goal.returns
unfolding ascending
returns c = line_kept _ _ _ _ c.names-named.ensures c.store_words-a.ensures c.ascends.ensures c.require.ensures
