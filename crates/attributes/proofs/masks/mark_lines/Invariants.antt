use Prim.Native.Nat.{ℕ, ◌≤◌}
use mathlib.Core.List.{List, ◌++◌}
use lib.ListN.{length}
use lib.Seq.{slice}
use Rattle.grammar.specs.Data.Book.{Book}
use Rattle.grammar.specs.Automaton.FirstSets.{Sets}
use Rattle.grammar.specs.Automaton.CoreItems.{Core, of_kernels}
use Rattle.items.specs.Arrays.{SuffixesIn, ReachesIn}
use Rattle.attributes.specs.Marks.{MarksIn}
use Rattle.attributes.specs.MarkLines.{ItemLinesIn}
use Rattle.attributes.proofs.masks.mark_lines.Given as goal

abbrev pub invariant-loop-i : goal.invariant-loop-i
invariant-loop-i l = (l.first ≤ l.i)
    × ((b : Book) (F : Sets) (R begins : List ℕ) (items : List Core) → ItemLinesIn b l.kernels → l.last ≤ length b.kernels
    → SuffixesIn b.rules F l.nullables begins → ReachesIn b.rules F R l.reaches → MarksIn b F R items l.initial.masks
    → MarksIn b F R (of_kernels (slice l.i l.last b.kernels) ++ items) l.masks)
