use Prim.Native.Nat.{ℕ, ◌≤◌}
use mathlib.Core.Path.{◌≡◌}
use mathlib.Core.List.{List, ◌++◌}
use lib.ListN.{length}
use lib.Seq.{slice}
use Rattle.grammar.specs.Data.Book.{Book}
use Rattle.grammar.specs.Format.Ordered.{Ordered}
use Rattle.grammar.specs.Automaton.FirstSets.{Sets}
use Rattle.grammar.specs.Automaton.CoreItems.{Core, of_kernels}
use Rattle.grammar.specs.Formulas.FormulaCheck as grammar
use Rattle.items.specs.Arrays.{SuffixesIn, ReachesIn}
use Rattle.attributes.specs.Checking.{CheckHeld}
use Rattle.attributes.specs.MarkLines.{ItemLinesIn}
use Rattle.plans.specs.Places.{PlacesIn}
use Rattle.plans.specs.Found.{FoundIn}
use Rattle.plans.proofs.members.kernel_lines.Given as goal

abbrev pub invariant-loop-i : goal.invariant-loop-i
invariant-loop-i l = (l.from ≤ l.i)
    × ((b : Book) (F : Sets) (R begins rules owned masks : List ℕ) (items : List Core) → Ordered b
    → CheckHeld b l.program.definitions.now rules owned masks
    → l.program.lines ≡ grammar.definitions b → ItemLinesIn b l.program.kernels.now → l.to ≤ length b.kernels → SuffixesIn b.rules F l.program.nullables.now begins
    → ReachesIn b.rules F R l.program.reaches.now → PlacesIn b 0 l.program.places.now → FoundIn b F R l.terminal items l.initial.found
    → FoundIn b F R l.terminal (of_kernels (slice l.i l.to b.kernels) ++ items) l.found)
