use Rattle.std.proofs.Common.{ℕ, List}
use Rattle.grammar.specs.Data.Book.{Book}
use Rattle.cells.specs.Cells.{PlanAsked}
use Rattle.cells.specs.CellsLaws.{SettingLines}
use Rattle.cells.proofs.cells.set_lines.Given as goal

abbrev pub invariant-loop-line : goal.invariant-loop-line
invariant-loop-line l = (b : Book) (lines : List ℕ) → PlanAsked b l.definitions l.plan l.from l.count l.height lines
    → SettingLines b l.synthesized l.height lines l.initial.inherited l.inherited l.line-index
