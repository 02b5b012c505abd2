use Prim.Native.Nat.{ℕ, ◌≤◌}
use mathlib.Core.Bool.{false}
use mathlib.Core.List.{List}
use Rattle.text.specs.Rest.{rest, size}
use Rattle.grammar.specs.Format.Expression.{Scan}
use Rattle.definitions.specs.ExpressionsLoop.{Working}
use Rattle.definitions.proofs.expression.close.Given as goal

abbrev pub invariant-loop-i : goal.invariant-loop-i
invariant-loop-i l = (size (rest l.source.bytes.now l.p) ≤ size (rest l.source.bytes.now l.at))
    × ((first : List ℕ) (start : Scan) → Working l.source.bytes.now first start l.initial.waits l.operators false l.at l.nodes l.initial.line
    → Working l.source.bytes.now first start l.waits l.i false l.p l.count l.line)
