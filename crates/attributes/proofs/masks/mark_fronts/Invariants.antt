use Prim.Native.Nat.{ℕ, ◌*◌, ◌≤◌}
use mathlib.Core.Path.{◌≡◌}
use mathlib.Core.List.{List}
use lib.ListN.{length}
use Rattle.grammar.specs.Data.Book.{Book}
use Rattle.grammar.specs.Automaton.FirstSets.{Sets}
use Rattle.grammar.specs.Formulas.FormulaCheck as grammar
use Rattle.items.specs.Arrays.{SuffixesIn, ReachesIn}
use Rattle.attributes.specs.Checking.{CheckHeld}
use Rattle.attributes.specs.MarkFronts.{LooksIn, FrontsMarked}
use Rattle.attributes.proofs.masks.mark_fronts.Given as goal

abbrev pub invariant-loop-i : goal.invariant-loop-i
invariant-loop-i l = (b : Book) (F : Sets) (R begins owned cleared L : List ℕ) → CheckHeld b l.definitions l.rules owned cleared
    → LooksIn b.rules l.rules L l.closures l.first → l.lines ≡ grammar.definitions b → SuffixesIn b.rules F l.nullables begins
    → ReachesIn b.rules F R l.reaches → 9 * length b.rules ≤ length l.initial.masks → FrontsMarked b F R L l.i l.masks
