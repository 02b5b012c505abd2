use mathlib.Core.Path.{◌≡◌}
use Rattle.items.specs.NoItems.{Nothing}
use Rattle.items.proofs.words.nothing.Given as goal

abbrev pub invariant-loop-word : goal.invariant-loop-word
invariant-loop-word l = l.bits ≡ 0 → Nothing l.words l.first l.word-index
