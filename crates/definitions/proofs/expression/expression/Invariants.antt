use mathlib.Core.List.{[]}
use mathlib.Core.Bool.{true}
use mathlib.Core.Path.{◌≡◌}
use lib.ListN.{length}
use Rattle.text.specs.Rest.{rest, size}
use Rattle.grammar.specs.Format.Expression.{scan}
use Rattle.definitions.specs.Expressions.{DEFINITION_WORDS}
use Rattle.definitions.specs.ExpressionsLoop.{Asking}
use Rattle.definitions.proofs.expression.expression.Given as goal

abbrev pub invariant-loop-p : goal.invariant-loop-p
invariant-loop-p l = (length l.waits ≡ length l.initial.waits) × (length l.line ≡ DEFINITION_WORDS)
    × Asking l.source.bytes.now l.initial.line (scan true (rest l.source.bytes.now l.at) [] []) l.waits l.depth l.p l.count l.line

abbrev pub decreases-loop-p : goal.decreases-loop-p
decreases-loop-p l = size (rest l.source.bytes.now l.p)
