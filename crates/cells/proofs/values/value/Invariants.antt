use Rattle.std.proofs.Common.{◌-◌}
use Rattle.grammar.specs.Data.Book.{Expr}
use Rattle.cells.specs.Values.{place_in, Asked}
use Rattle.cells.specs.ValuesLaws.{Running}
use Rattle.cells.proofs.values.value.Given as goal

abbrev pub invariant-loop-i : goal.invariant-loop-i
invariant-loop-i l = (e : Expr) → Asked l.definitions l.line l.dot e → Running (place_in (l.height - l.dot) l.inherited l.synthesized) l.dot e l.stack l.top l.i
