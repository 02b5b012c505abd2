use Prim.Native.Nat.{◌-◌}
use Rattle.grammar.specs.Data.Book.{Book}
use Rattle.stack.specs.LeftLines.{LeftBefore}
use Rattle.stack.specs.NodeValues.{NodeAsked}
use Rattle.stack.proofs.records.node_values.Given as goal

abbrev pub invariant-loop-i : goal.invariant-loop-i
invariant-loop-i l = (b : Book) → NodeAsked b l.definitions l.spans l.rule l.size
    → LeftBefore b l.rule (l.height - l.size) l.cells l.records l.definitions l.spans l.values l.i
