use Prim.Native.Nat.{ℕ}
use Rattle.grammar.specs.Data.Book.{Expr}
use Rattle.grammar.specs.Formulas.Formula.{Formula}
use Rattle.formulas.specs.Table.{NodesKept}
use Rattle.formulas.specs.Formulas.{Asked}
use Rattle.formulas.specs.FormulasLaws.{Running}
use Rattle.formulas.proofs.formulas.formula_of.Given as goal

abbrev pub invariant-loop-i : goal.invariant-loop-i
invariant-loop-i l = NodesKept l.initial.nodes l.nodes
    × ((e : Expr) (f : ℕ → Formula) → Asked l.definitions l.line l.dot l.slots l.initial.nodes.rows.now l.initial.used e f
    → Running l.dot l.slots e f l.initial.nodes.rows.now l.initial.used l.nodes.rows.now l.nodes.heads.now l.nodes.nexts.now l.used l.stack l.top l.i)
