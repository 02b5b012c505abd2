use Prim.Native.Nat.{ℕ}
use mathlib.Core.Path.{◌≡◌}
use mathlib.Core.List.{List}
use lib.ListN.{length}
use Rattle.grammar.specs.Limits.{MAX_INHERITED}
use Rattle.book.specs.Held.{OwnersIn}
use Rattle.attributes.specs.Owned.{OwnedIn}
use Rattle.attributes.proofs.owned.owned.Given as goal

abbrev pub invariant-loop-i : goal.invariant-loop-i
invariant-loop-i l = (os : List ℕ) → OwnersIn MAX_INHERITED os l.owners → length os ≡ l.count → OwnedIn os l.i l.sets
