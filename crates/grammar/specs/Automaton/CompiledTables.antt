-- What stands in the tables that are worked out of a book: at each state its listed items, at each state and terminal its cell.
-- Assumes nothing.
use Prim.Native.Nat.{ℕ, zero, suc, ◌+◌, ◌≤◌, ◌<◌}
use Rattle.std.proofs.Common.{arith, zero-add, ◌∙◌}
use Rattle.std.specs.Prelude.{◌≡◌, length, get_or}
use Rattle.std.proofs.Math.Path.{refl, ap}
use mathlib.Core.List.{List, [], ◌∷◌}
use Rattle.std.proofs.Math.ListN.{get_or-eq_default}
use Rattle.grammar.specs.Data.Symbol.{Rule}
use Rattle.grammar.specs.Data.Book.{Book}
use Rattle.grammar.specs.Automaton.FirstSets.{Sets}
use Rattle.grammar.specs.Automaton.CoreItems.{Core, core_items}
use Rattle.grammar.specs.Automaton.Actions.{Cell, free, cell_from, cells_from}
use Rattle.grammar.specs.Automaton.Compiled.{tabulate, items_table, cells_table, items_at}

-- ---- tables

module _ {A : Type 0} (f : ℕ → A) where
  tabulate-from : (i count j : ℕ) (d : A) → j < count → get_or (tabulate f i count) j d ≡ f (i + j)
  unfolding tabulate
  tabulate-from i zero j d h = absurd (omega arith)
  tabulate-from i (suc count) zero d h = ap f (omega arith)
  tabulate-from i (suc count) (suc j) d h = tabulate-from (suc i) count j d (omega arith) ∙ ap f (omega arith)

  pub length-tabulate : (i count : ℕ) → length (tabulate f i count) ≡ count
  unfolding tabulate
  length-tabulate i zero = refl
  length-tabulate i (suc count) = ap suc (length-tabulate (suc i) count)

  pub tabulate-at : (count j : ℕ) (d : A) → j < count → get_or (tabulate f 0 count) j d ≡ f j
  tabulate-at count j d h = tabulate-from 0 count j d h ∙ ap f (zero-add j)

  pub tabulate-past : (count j : ℕ) (d : A) → count ≤ j → get_or (tabulate f 0 count) j d ≡ d
  tabulate-past count j d h = get_or-eq_default (tabulate f 0 count) d (omega (arith, length-tabulate 0 count))

-- ---- the items of each state

module _ (b : Book) (F : Sets) where
  pub items_table-at : (S : ℕ) → S < b.states → items_at b (items_table b F) S ≡ core_items b F S
  unfolding items_at items_table
  items_table-at S h = tabulate-at (core_items b F) b.states S [] h

  pub items-past : (S : ℕ) → b.states ≤ S → items_at b (items_table b F) S ≡ []
  unfolding items_at items_table
  items-past S h = tabulate-past (core_items b F) b.states S [] h

-- ---- the cell of each state and terminal

-- the cell of state S and terminal a
abbrev pub cell_at : List (List Cell) → ℕ → ℕ → Cell
cell_at cells S a = get_or (get_or cells S []) a free

module _ (G : List Rule) (items : List Core) where
  cells-tabulated : (a count : ℕ) → cells_from G items a count ≡ tabulate (cell_from G items) a count
  unfolding cells_from tabulate
  cells-tabulated a zero = refl
  cells-tabulated a (suc count) = ap (λ cells. cell_from G items a ∷ cells) (cells-tabulated (suc a) count)

  cells_at : (count a : ℕ) → a < count → get_or (cells_from G items 0 count) a free ≡ cell_from G items a
  cells_at count a h = rw (cells-tabulated 0 count) (tabulate-at (cell_from G items) count a free h)

  cells-past : (count a : ℕ) → count ≤ a → get_or (cells_from G items 0 count) a free ≡ free
  cells-past count a h = rw (cells-tabulated 0 count) (tabulate-past (cell_from G items) count a free h)

module _ (b : Book) (F : Sets) where
  cells_of : ℕ → List Cell
  cells_of S = cells_from b.rules (core_items b F S) 0 (suc b.terminals)

  states-tabulated : (i count : ℕ) → cells_table b (tabulate (core_items b F) i count) ≡ tabulate cells_of i count
  unfolding cells_table tabulate cells_of
  states-tabulated i zero = refl
  states-tabulated i (suc count) = ap (λ cells. cells_of i ∷ cells) (states-tabulated (suc i) count)

  pub cell-at : (S a : ℕ) → S < b.states → a ≤ b.terminals → cell_at (cells_table b (items_table b F)) S a ≡ cell_from b.rules (core_items b F S) a
  unfolding items_table cells_of
  cell-at S a h l =
      rw (states-tabulated 0 b.states, tabulate-at cells_of b.states S [] h) (cells_at b.rules (core_items b F S) (suc b.terminals) a (omega arith))

  -- beyond the states and terminals of the book nothing stands
  pub state-past : (S a : ℕ) → b.states ≤ S → cell_at (cells_table b (items_table b F)) S a ≡ free
  unfolding items_table cells_of
  state-past S a h = rw (states-tabulated 0 b.states, tabulate-past cells_of b.states S [] h)

  pub terminal-past : (S a : ℕ) → S < b.states → b.terminals < a → cell_at (cells_table b (items_table b F)) S a ≡ free
  unfolding items_table cells_of
  terminal-past S a h l =
      rw (states-tabulated 0 b.states, tabulate-at cells_of b.states S [] h) (cells-past b.rules (core_items b F S) (suc b.terminals) a l)
