use Prim.Native.Nat.{ℕ}
use mathlib.Core.List.{List}
use Rattle.stack.specs.Lists.{Listable, ListsBelow}
use Rattle.stack.proofs.lists.fill_lists.Given as goal

abbrev pub invariant-loop-i : goal.invariant-loop-i
invariant-loop-i l = (room : ℕ) → (os : List ℕ) → Listable room os l.owners l.count → ListsBelow os l.i l.lists
