use Prim.Native.Nat.{ℕ, ◌<◌, ◌≤◌}
use mathlib.Core.Path.{◌≡◌}
use mathlib.Core.List.{List}
use Rattle.grammar.specs.Data.Book.{Book}
use Rattle.grammar.specs.Formulas.FormulaCheck as grammar
use Rattle.attributes.specs.Checking.{CheckHeld}
use Rattle.plans.specs.LinesAdded.{Adding}
use Rattle.plans.specs.DefinitionLines.{item_at}
use Rattle.plans.proofs.members.item_lines.Given as goal

abbrev pub invariant-loop-line : goal.invariant-loop-line
invariant-loop-line l = Adding l.first l.line l.initial.found l.found
    × ((b : Book) (rules owned masks : List ℕ) → CheckHeld b l.definitions rules owned masks → l.lines ≡ grammar.definitions b
    → (d : ℕ) → l.first ≤ d → d < l.line → item_at b d ≡ l.place)
