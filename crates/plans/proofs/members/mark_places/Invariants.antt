use Prim.Native.Nat.{ℕ, ◌+◌, ◌*◌, ◌≤◌}
use mathlib.Core.Path.{◌≡◌}
use mathlib.Core.List.{List}
use lib.ListN.{length, get_or}
use Rattle.grammar.specs.Data.Book.{Book}
use Rattle.grammar.specs.Formulas.FormulaCheck as grammar
use Rattle.attributes.specs.Checking.{CheckHeld}
use Rattle.plans.specs.Places.{PlacesIn}
use Rattle.plans.proofs.members.mark_places.Given as goal

abbrev pub invariant-loop-i : goal.invariant-loop-i
invariant-loop-i l = (b : Book) (owned masks : List ℕ) → CheckHeld b l.definitions l.rules owned masks → l.lines ≡ grammar.definitions b
    → 32 + 9 * length b.rules ≤ length l.initial.places → ((k : ℕ) → get_or l.initial.places k 0 ≡ 0) → PlacesIn b l.i l.places
