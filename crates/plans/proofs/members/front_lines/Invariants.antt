use Prim.Native.Nat.{ℕ}
use mathlib.Core.Path.{◌≡◌}
use mathlib.Core.List.{List}
use Rattle.grammar.specs.Data.Book.{Book}
use Rattle.grammar.specs.Automaton.FirstSets.{Sets}
use Rattle.grammar.specs.Formulas.FormulaCheck as grammar
use Rattle.items.specs.Arrays.{SuffixesIn, ReachesIn}
use Rattle.attributes.specs.Checking.{CheckHeld}
use Rattle.attributes.specs.MarkFronts.{LooksIn}
use Rattle.plans.specs.Found.{FrontsFound}
use Rattle.plans.proofs.members.front_lines.Given as goal

abbrev pub invariant-loop-i : goal.invariant-loop-i
invariant-loop-i l = (b : Book) (F : Sets) (R begins owned masks L : List ℕ) → CheckHeld b l.program.definitions.now l.program.rules.now owned masks
    → LooksIn b.rules l.program.rules.now L l.program.closures.now l.first
    → l.program.lines ≡ grammar.definitions b → SuffixesIn b.rules F l.program.nullables.now begins → ReachesIn b.rules F R l.program.reaches.now
    → FrontsFound b F R l.terminal L 0 l.initial.found → FrontsFound b F R l.terminal L l.i l.found
