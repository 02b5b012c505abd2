use Prim.Native.Nat.{ℕ}
use mathlib.Core.Path.{◌≡◌}
use mathlib.Core.List.{List}
use Rattle.grammar.specs.Data.Book.{Book}
use Rattle.grammar.specs.Formulas.FormulaCheck as grammar
use Rattle.attributes.specs.Checking.{CheckHeld}
use Rattle.agreement.specs.Alike.{Untold}
use Rattle.agreement.proofs.alike.alike.Given as goal

abbrev pub invariant-loop-i : goal.invariant-loop-i
invariant-loop-i l = (b : Book) (rules owned : List ℕ) → CheckHeld b l.definitions rules owned l.masks → l.lines ≡ grammar.definitions b
    → Untold b l.masks l.terminal l.apart l.i
