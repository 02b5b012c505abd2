-- What is right about the sets of a book: the listed items of each state are its closure, and the reached sets hold what its items reach.
-- The laws about a book's sets give it; what is decided by the sets takes it as its hypothesis. Assumes nothing.
use Rattle.std.specs.Prelude.{ℕ, ◌≡◌, true}
use mathlib.Core.List.{List, Memᴰ as Mem}
use Rattle.sets.specs.Sets.{bit}
use Rattle.grammar.specs.Data.Symbol.{after}
use Rattle.grammar.specs.Data.Book.{Book}
use Rattle.grammar.specs.Automaton.Items.{Reaches, Closure}
use Rattle.grammar.specs.Automaton.FirstSets.{Sets}
use Rattle.grammar.specs.Automaton.ReachSets.{reach_with}
use Rattle.grammar.specs.Automaton.CoreItems.{core, core_items}

pub record ItemsRight (b : Book) (F : Sets) (R : List ℕ) : Type 0 where
  -- the items of a closure are those listed
  pub closure_core : (S P D a : ℕ) → Closure b S P D a → (M : ℕ) × Mem (core P D M) (core_items b F S) × (bit M a ≡ true)
  pub core_closure : (S P D M a : ℕ) → Mem (core P D M) (core_items b F S) → bit M a ≡ true → Closure b S P D a
  -- each has a lookahead
  pub core_some : (S P D M : ℕ) → Mem (core P D M) (core_items b F S) → (a : ℕ) × (bit M a ≡ true)
  -- the terminals that the items of one entry reach are those of its set
  pub reaches_core : (S P D M a c : ℕ) → Mem (core P D M) (core_items b F S) → bit M c ≡ true → Reaches b.rules a P D c
      → bit (reach_with F R (after b.rules P D) M) a ≡ true
  pub core_reaches : (S P D M a : ℕ) → Mem (core P D M) (core_items b F S) → bit (reach_with F R (after b.rules P D) M) a ≡ true
      → (c : ℕ) × (bit M c ≡ true) × Reaches b.rules a P D c
