use Prim.Native.Nat.{ℕ, ◌*◌, ◌≤◌}
use mathlib.Core.Path.{◌≡◌}
use mathlib.Core.List.{List}
use lib.ListN.{length}
use Rattle.grammar.specs.Data.Book.{Book}
use Rattle.grammar.specs.Formulas.FormulaCheck as grammar
use Rattle.attributes.specs.Checking.{CheckHeld}
use Rattle.agreement.specs.Given.{GivenIn}
use Rattle.agreement.proofs.givers.mark_givers.Given as goal

abbrev pub invariant-loop-i : goal.invariant-loop-i
invariant-loop-i l = (b : Book) (rules owned masks : List ℕ) → CheckHeld b l.definitions rules owned masks → l.lines ≡ grammar.definitions b
    → 9 * length b.rules ≤ length l.initial.given → GivenIn b l.i l.given l.leaders
