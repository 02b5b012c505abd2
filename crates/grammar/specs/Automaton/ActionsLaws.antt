-- The table of actions is right: its test decides that there is no conflict (9), and without one the table gives each action.
-- Assumes what line order, limits and declared names give (WellNamed) and that the listed items are the closure (ItemsRight).
use Prim.Native.Nat.{ℕ, zero, suc, ◌≤◌, ◌<◌}
use Rattle.std.proofs.Common.{arith, ap, length-drop, ltb-true, ltb-false}
use Rattle.std.specs.Prelude.{◌≡◌, refl, ◌≢◌, Bool, true, false, ltb, length, get_or}
use Rattle.std.proofs.Math.Option.{some}
use mathlib.Core.List.{List, [], ◌∷◌, Memᴰ as Mem}
use Rattle.std.proofs.Math.Seq.{drop-length}
use Rattle.grammar.specs.Data.Symbol.{right_of, after}
use Rattle.grammar.specs.Data.Book.{Book}
use Rattle.grammar.specs.Automaton.Items.{Closure}
use Rattle.grammar.specs.Automaton.States.{Action, accept, reduce, Acts, shifts, reduces, accepts, NoConflict}
use Rattle.grammar.specs.Automaton.FirstSets.{Sets}
use Rattle.grammar.specs.Automaton.CoreItems.{Core, core, core_items}
use Rattle.grammar.specs.Automaton.Actions.{Cell, free, act, conflict, completed, no_conflict_in, action_of}
use Rattle.grammar.specs.Automaton.Compiled.{items_table, cells_table, no_conflict}
use Rattle.grammar.specs.Automaton.CompiledTables.{cell_at, cell-at, state-past, terminal-past}
use Rattle.grammar.specs.Automaton.ItemsRight.{ItemsRight}
use Rattle.grammar.specs.Conditions.Decides.{Decides, true-decides, false-decides, equivalent, then-decides}
use Rattle.grammar.specs.Automaton.WellNamed.{WellNamed}
use Rattle.grammar.specs.Automaton.ClosureBounds.{next-terminal, closure-state, closure-dot, closure-terminal}
use Rattle.grammar.specs.Automaton.CellLaws.{Sums, no_action, sums_same, one_at_most, not-conflict, found-given, given-found}
use Rattle.grammar.specs.Automaton.CellLaws.{Gives, shifts as item-shifts, completes, Given, cell-sums}

-- ---- the test finds every conflict of a table

other-first : {t : Bool} (cell : Cell) (cells : List Cell) → cell ≢ conflict → Decides t ((a : ℕ) → get_or cells a free ≢ conflict)
    → Decides t ((a : ℕ) → get_or (cell ∷ cells) a free ≢ conflict)
other-first cell cells n = equivalent join (λ h a. h (suc a))
  where
    join : ((a : ℕ) → get_or cells a free ≢ conflict) → (a : ℕ) → get_or (cell ∷ cells) a free ≢ conflict
    join h zero = n
    join h (suc a) = h a

no_conflict_in-decides : (cells : List Cell) → Decides (no_conflict_in cells) ((a : ℕ) → get_or cells a free ≢ conflict)
unfolding no_conflict_in
no_conflict_in-decides [] = true-decides λ a e. let z : ◌≡◌ {A = ℕ} 0 1 = cc in omega arith
no_conflict_in-decides (free ∷ cells) = other-first free cells (λ e. let z : ◌≡◌ {A = ℕ} 0 1 = cc in omega arith) (no_conflict_in-decides cells)
no_conflict_in-decides (act x ∷ cells) = other-first (act x) cells (λ e. let z : ◌≡◌ {A = ℕ} 0 1 = cc in omega arith) (no_conflict_in-decides cells)
no_conflict_in-decides (conflict ∷ cells) = false-decides λ h. h 0 refl

no_conflict-finds : (b : Book) (rows : List (List Cell)) → Decides (no_conflict b rows) ((S a : ℕ) → cell_at rows S a ≢ conflict)
unfolding no_conflict
no_conflict-finds b [] = true-decides λ S a e. let z : ◌≡◌ {A = ℕ} 0 1 = cc in omega arith
no_conflict-finds b (cells ∷ rows) = equivalent join (λ h. (h 0, λ S. h (suc S))) (then-decides (no_conflict_in-decides cells) (no_conflict-finds b rows))
  where
    join : (((a : ℕ) → get_or cells a free ≢ conflict) × ((S a : ℕ) → cell_at rows S a ≢ conflict)) → (S a : ℕ) → cell_at (cells ∷ rows) S a ≢ conflict
    join h zero a = h.0 a
    join h (suc S) a = h.1 S a

-- ---- the table's actions are those of the states

completed-accepts : accept ≡ completed 0
unfolding completed
completed-accepts = refl

completed-reduces : (P : ℕ) → P ≢ 0 → reduce P ≡ completed P
unfolding completed
completed-reduces zero n = absurd (n refl)
completed-reduces (suc P) n = refl

module _ {b : Book} {F : Sets} {R : List ℕ} (w : WellNamed b) (right : ItemsRight b F R) where
  -- a closure item with nothing behind its dot has the dot at the end
  at-end : {S P D a : ℕ} → Closure b S P D a → after b.rules P D ≡ [] → D ≡ length (right_of b.rules P)
  at-end {P = P} {D = D} c e = omega (arith, closure-dot w c, length-drop D (right_of b.rules P), ap length e)

  completed-acts : {S a : ℕ} (P : ℕ) → Closure b S P (length (right_of b.rules P)) a → Acts b S a (completed P)
  unfolding completed
  completed-acts zero c = accepts c
  completed-acts (suc P) c = reduces {P = suc P} (λ z. omega arith) c

  item-acts : (S a : ℕ) (x : Action) (c : Core) → Mem c (core_items b F S) → Gives b.rules a c x → Acts b S a x
  item-acts S a x c m (item-shifts {P = P} {D = D} {M = M} e) =
      let (d, p) = right.core_some S P D M m in
      shifts (right.core_closure S P D M d m p) e
  item-acts S a x c m (completes {P = P} {D = D} {M = M} e p q) =
      let k : Closure b S P D a = right.core_closure S P D M a m p in
      let l : Closure b S P (length (right_of b.rules P)) a = rw (at-end k e) at k in
      rw q (completed-acts P l)

  complete-given : {S a : ℕ} (P : ℕ) {x : Action} → x ≡ completed P → Closure b S P (length (right_of b.rules P)) a
      → Given b.rules a (core_items b F S) x
  complete-given {S} {a} P q k =
      let (M, m, p) = right.closure_core S P (length (right_of b.rules P)) a k in
      (core P (length (right_of b.rules P)) M, m, completes (drop-length (right_of b.rules P)) p q)

  acts-given : {S a : ℕ} {x : Action} → Acts b S a x → Given b.rules a (core_items b F S) x
  acts-given {S} {a} (shifts {P = P} {D = D} {c = c} k e) = let (M, m, p) = right.closure_core S P D c k in (core P D M, m, item-shifts e)
  acts-given (reduces {P = P} n k) = complete-given P (completed-reduces P n) k
  acts-given (accepts k) = complete-given 0 completed-accepts k

  acts-state : {S a : ℕ} {x : Action} → Acts b S a x → S < b.states
  acts-state (shifts k e) = closure-state w k
  acts-state (reduces n k) = closure-state w k
  acts-state (accepts k) = closure-state w k

  acts-terminal : {S a : ℕ} {x : Action} → Acts b S a x → a ≤ b.terminals
  acts-terminal (shifts {P = P} {D = D} {a = a} k e) = next-terminal w P D a e
  acts-terminal (reduces n k) = closure-terminal w k
  acts-terminal (accepts k) = closure-terminal w k

  -- every cell sums up the actions of its state and terminal; beyond the table there are none
  pub cell-right : (S a : ℕ) → Sums (Acts b S a) (cell_at (cells_table b (items_table b F)) S a)
  cell-right S a = by (ltb S b.states) refl (ltb b.terminals a) refl
    where
      nothing : cell_at (cells_table b (items_table b F)) S a ≡ free → ((x : Action) → Acts b S a x → ⊥)
          → Sums (Acts b S a) (cell_at (cells_table b (items_table b F)) S a)
      nothing e n = rw e (no_action n)

      by : (s : Bool) → ltb S b.states ≡ s → (t : Bool) → ltb b.terminals a ≡ t → Sums (Acts b S a) (cell_at (cells_table b (items_table b F)) S a)
      by false e t f =
          let h : b.states ≤ S = ltb-false S b.states e in
          nothing (state-past b F S a h) (λ x k. let l : S < b.states = acts-state k in omega arith)
      by true e true f =
          let h : b.terminals < a = ltb-true b.terminals a f in
          nothing (terminal-past b F S a (ltb-true S b.states e) h) (λ x k. let l : a ≤ b.terminals = acts-terminal k in omega arith)
      by true e false f =
          rw (cell-at b F S a (ltb-true S b.states e) (ltb-false b.terminals a f))
          (sums_same (λ x (c, m, g). item-acts S a x c m g) (λ x k. acts-given k) (cell-sums b.rules a (core_items b F S)))

  -- 9
  pub no_conflict-decides : Decides (no_conflict b (cells_table b (items_table b F))) (NoConflict b)
  no_conflict-decides =
      equivalent
      (λ h S a. one_at_most (cell-right S a) (h S a))
      (λ h S a. not-conflict (cell-right S a) (h S a))
      (no_conflict-finds b (cells_table b (items_table b F)))

  -- the action that the table gives at a state and a terminal is one of the state, and without a conflict it gives each
  pub found-acts : (S a : ℕ) (x : Action) → action_of (cell_at (cells_table b (items_table b F)) S a) ≡ some x → Acts b S a x
  found-acts S a = found-given (cell-right S a)

  pub acts-found : NoConflict b → (S a : ℕ) (x : Action) → Acts b S a x → action_of (cell_at (cells_table b (items_table b F)) S a) ≡ some x
  acts-found h S a = given-found (cell-right S a) (not-conflict (cell-right S a) (h S a))
