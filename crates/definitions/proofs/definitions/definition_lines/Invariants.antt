use mathlib.Core.Path.{◌≡◌}
use lib.ListN.{length}
use Rattle.text.specs.Rest.{rest, size}
use Rattle.definitions.specs.DefinitionsLoop.{Defining}
use Rattle.definitions.specs.Definitions.{definitions}
use Rattle.book.specs.Order.{key_of, last_key}
use Rattle.definitions.proofs.definitions.definition_lines.Given as goal

abbrev pub invariant-loop-head : goal.invariant-loop-head
invariant-loop-head l = (length l.waits ≡ length l.initial.waits) × Defining l.kind l.room l.first l.source.bytes.now (definitions l.kind (rest l.source.bytes.now l.at)) l.initial.out (last_key key_of l.last) l.k l.p l.out

abbrev pub decreases-loop-head : goal.decreases-loop-head
decreases-loop-head l = size (rest l.source.bytes.now l.p)
