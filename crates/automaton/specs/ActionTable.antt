-- The actions of all states in an array: the rows of the states below one are done, those from it on are bare.
-- Assumes nothing.
use Prim.Native.Nat.{ℕ, zero, suc, ◌+◌, ◌*◌, ◌<◌, ◌≤◌}
use Rattle.std.proofs.Common.{arith, sym, ◌∙◌, ⊎_elim, eq-or-lt_of_le, le_of_suc-le-suc, add-one, length-append, length-drop, ltb-true, ltb-false}
use Rattle.std.specs.Prelude.{◌≡◌, ◌≢◌, Bool, ltb, length, get_or, drop, replicate}
use Rattle.std.proofs.Math.Path.{refl}
use Rattle.std.proofs.Math.Bool.{true, false}
use mathlib.Core.List.{List, [], ◌∷◌, ◌++◌}
use Rattle.std.proofs.lemmas.List.{length-replicate, get_or-replicate}
use Rattle.std.proofs.Math.ListN.{get_or-append}
use Rattle.grammar.specs.Automaton.TestLaws.{true-false}
use Rattle.grammar.specs.Data.Book.{Book}
use Rattle.grammar.specs.Automaton.FirstSets.{Sets}
use Rattle.grammar.specs.Automaton.CoreItems.{core_items}
use Rattle.grammar.specs.Automaton.Actions.{Cell, free, act, conflict, cell_from, no_conflict_in}
use Rattle.grammar.specs.Automaton.Compiled.{items_table, cells_table, no_conflict}
use Rattle.grammar.specs.Automaton.CompiledTables.{cell_at, cell-at, state-past, terminal-past}
use Rattle.items.specs.Arrays.{ActionsIn}
use Rattle.automaton.specs.StatesIn.{ItemsIn}
use Rattle.automaton.specs.Fronts.{FrontsIn}
use Rattle.automaton.specs.Cells.{nothing, clear-conflict, free-code}
use Rattle.automaton.specs.ActionRows.{Row, Clash, Melded}

-- ---- the test of a table finds its conflicts

free-conflict : free ≢ conflict
free-conflict e = let z : ◌≡◌ {A = ℕ} 0 1 = cc in omega arith

row-conflict : (cells : List Cell) (a : ℕ) → get_or cells a free ≡ conflict → no_conflict_in cells ≡ false
unfolding no_conflict_in
row-conflict [] a e = absurd (free-conflict e)
row-conflict (free ∷ cells) zero e = absurd (free-conflict e)
row-conflict (free ∷ cells) (suc a) e = row-conflict cells a e
row-conflict (act x ∷ cells) zero e = absurd (let z : ◌≡◌ {A = ℕ} 0 1 = cc in omega arith)
row-conflict (act x ∷ cells) (suc a) e = row-conflict cells a e
row-conflict (conflict ∷ cells) a e = refl

row-clear : (cells : List Cell) → ((a : ℕ) → get_or cells a free ≢ conflict) → no_conflict_in cells ≡ true
unfolding no_conflict_in
row-clear [] h = refl
row-clear (free ∷ cells) h = row-clear cells (λ a. h (suc a))
row-clear (act x ∷ cells) h = row-clear cells (λ a. h (suc a))
row-clear (conflict ∷ cells) h = absurd (h 0 refl)

module _ (b : Book) where
  table-conflict : (rows : List (List Cell)) (S a : ℕ) → cell_at rows S a ≡ conflict → no_conflict b rows ≡ false
  unfolding no_conflict
  table-conflict [] S a e = absurd (free-conflict e)
  table-conflict (cells ∷ rows) zero a e = rw (row-conflict cells a e, no_conflict)
  table-conflict (cells ∷ rows) (suc S) a e = go (no_conflict_in cells) (table-conflict rows S a e)
    where
      go : (t : Bool) → no_conflict b rows ≡ false → elim t [ true ↦ no_conflict b rows | false ↦ false ] ≡ false
      go true q = q
      go false q = refl

  table-clear : (rows : List (List Cell)) → ((S a : ℕ) → cell_at rows S a ≢ conflict) → no_conflict b rows ≡ true
  unfolding no_conflict
  table-clear [] h = refl
  table-clear (cells ∷ rows) h = rw (row-clear cells (h 0), no_conflict) (table-clear rows (λ S. h (suc S)))

-- ---- what is told of the table

pub record Acted (b : Book) (F : Sets) (actions : List ℕ) (r : Bool) : Type 0 where
  pub told : r ≡ no_conflict b (cells_table b (items_table b F))
  pub table : r ≡ true → ActionsIn b F actions

-- every state's cells
abbrev pub Rows : Book → Sets → ℕ → ℕ → List ℕ → Type 0
Rows b F T n actions = (S : ℕ) → S < n → Row T S (cell_from b.rules (core_items b F S)) actions

module _ (b : Book) (F : Sets) {T : ℕ} (t : T ≡ b.terminals) {actions : List ℕ} where
  pub acted-clash : {S : ℕ} → S < b.states → Clash T (cell_from b.rules (core_items b F S)) → Acted b F actions false
  acted-clash {S} s c = record {
    told = sym (table-conflict b (cells_table b (items_table b F)) S c.at (cell-at b F S c.at s (omega (arith, c.low)) ∙ c.clashes));
    table = λ q. true-false q refl;
  }

  pub acted-all : 32 * b.states ≤ length actions → Rows b F T b.states actions → Acted b F actions true
  acted-all l rows = record {
    told = sym (table-clear b (cells_table b (items_table b F)) clear);
    table = λ q. record { long = l; action_is = λ S a s h. rw (cell-at b F S a s h) ((rows S s).cell_is a (omega arith)) };
  }
    where
      clear : (S a : ℕ) → cell_at (cells_table b (items_table b F)) S a ≢ conflict
      clear S a = go (ltb S b.states) refl (ltb b.terminals a) refl
        where
          go : (s : Bool) → ltb S b.states ≡ s → (u : Bool) → ltb b.terminals a ≡ u → cell_at (cells_table b (items_table b F)) S a ≢ conflict
          go false e u f = rw (state-past b F S a (ltb-false S b.states e)) free-conflict
          go true e true f = rw (terminal-past b F S a (ltb-true S b.states e) (ltb-true b.terminals a f)) free-conflict
          go true e false f =
              let s : S < b.states = ltb-true S b.states e in
              let h : a ≤ b.terminals = ltb-false b.terminals a f in
              rw (cell-at b F S a s h) (λ q. clear-conflict (rw q at ((rows S s).clear a (omega arith))))

-- ---- one state after the other

-- the rows of the states from n on, up to the last, are bare
abbrev pub Bare : ℕ → ℕ → List ℕ → Type 0
Bare n states actions = (S a : ℕ) → n ≤ S → S < states → a < 32 → get_or actions (32 * S + a) 0 ≡ 0

-- the states below `state` are done
pub record StatesActing (rules kernels bounds closures fronts : List ℕ) (T states : ℕ) (now : List ℕ) (state : ℕ) : Type 0 where
  pub within : state ≤ states
  pub long : 32 * states ≤ length now
  pub so_far : (b : Book) (F : Sets) → ItemsIn b F rules kernels bounds closures → T ≡ b.terminals → states ≡ b.states → FrontsIn b rules closures fronts
      → Rows b F T state now × Bare state states now

pub states-none : (rules kernels bounds closures fronts : List ℕ) (T states : ℕ) (old : List ℕ) → 32 * states ≤ length old
    → StatesActing rules kernels bounds closures fronts T states (replicate (32 * states) 0 ++ drop (32 * states) old) 0
states-none rules kernels bounds closures fronts T states old f = record {
  within = omega arith;
  long = simp (length-append, length-replicate, length-drop) (omega arith);
  so_far = λ b F h t s c. (λ S n. absurd (omega arith), bare);
}
  where
    bare : Bare 0 states (replicate (32 * states) 0 ++ drop (32 * states) old)
    bare S a n s h =
        let cleared : length {A = ℕ} (replicate (32 * states) 0) ≡ 32 * states = length-replicate (32 * states) 0 in
        get_or-append (replicate (32 * states) 0) (drop (32 * states) old) 0 (32 * S + a) (omega arith)
        ∙ get_or-replicate (32 * states) (32 * S + a) 0 0 (omega arith)

-- a bare row has no action
bare-row : (b : Book) {T n states : ℕ} {actions : List ℕ} → T < 32 → n < states → Bare n states actions → Row T n (cell_from b.rules []) actions
unfolding cell_from
bare-row b {n = n} few s bare = record {
  cell_is = λ a l. bare n a (omega arith) s (omega arith) ∙ sym free-code;
  clear = λ a l. nothing;
}

module _ {rules kernels bounds closures fronts : List ℕ} {T states : ℕ} {now : List ℕ} {state : ℕ}
    (k : StatesActing rules kernels bounds closures fronts T states now state) where
  pub states-all : states ≤ state → (b : Book) (F : Sets) → ItemsIn b F rules kernels bounds closures → T ≡ b.terminals → states ≡ b.states
      → FrontsIn b rules closures fronts → Acted b F now true
  states-all l b F h t s c =
      let e : state ≡ b.states = omega (arith, k.within) in
      acted-all b F t (omega (arith, k.long)) (rw e at (k.so_far b F h t s c).0)

  module _ (l : state < states) {new : List ℕ} {r : Bool}
      (f : (b : Book) (F : Sets) → ItemsIn b F rules kernels bounds closures → state < b.states → T ≡ b.terminals → FrontsIn b rules closures fronts
      → Row T state (cell_from b.rules []) now → Melded T state (cell_from b.rules (core_items b F state)) now new r) where
    next-state : (b : Book) (F : Sets) → ItemsIn b F rules kernels bounds closures → T ≡ b.terminals → states ≡ b.states → FrontsIn b rules closures fronts
        → Melded T state (cell_from b.rules (core_items b F state)) now new r
    next-state b F h t s c =
        f b F h (omega arith) t c
        (bare-row b (omega (arith, h.states_in.grammar_in.limits.terminals_limit.high)) l (k.so_far b F h t s c).1)

    pub states-fail : r ≡ false → (b : Book) (F : Sets) → ItemsIn b F rules kernels bounds closures → T ≡ b.terminals → states ≡ b.states
        → FrontsIn b rules closures fronts → Acted b F new false
    states-fail q b F h t s c = acted-clash b F t (omega arith) ((next-state b F h t s c).clash q)

    pub states-more : r ≡ true → length new ≡ length now → StatesActing rules kernels bounds closures fronts T states new (state + 1)
    states-more q e = record { within = omega arith; long = omega (arith, k.long); so_far = more }
      where
        more : (b : Book) (F : Sets) → ItemsIn b F rules kernels bounds closures → T ≡ b.terminals → states ≡ b.states → FrontsIn b rules closures fronts
            → Rows b F T (state + 1) new × Bare (state + 1) states new
        more b F h t s c =
            let m : Melded T state (cell_from b.rules (core_items b F state)) now new r = next-state b F h t s c in
            let few : T < 32 = omega (arith, h.states_in.grammar_in.limits.terminals_limit.high) in
            let (rows, bare) = k.so_far b F h t s c in (
              λ S n. ⊎_elim
                  (λ z. rw z (m.row q))
                  (λ d. kept_row few (rows S d) (λ a g. m.kept q S a g (λ z. omega arith)))
                  (eq-or-lt_of_le (le_of_suc-le-suc (rw (add-one state) at n))),
              λ S a n d g. m.kept q S a g (λ z. omega arith) ∙ bare S a (omega arith) d g,
            )
          where
            kept_row : T < 32 → {S : ℕ} → Row T S (cell_from b.rules (core_items b F S)) now
                → ((a : ℕ) → a < 32 → get_or new (32 * S + a) 0 ≡ get_or now (32 * S + a) 0) → Row T S (cell_from b.rules (core_items b F S)) new
            kept_row few row same = record { cell_is = λ a g. same a (omega arith) ∙ row.cell_is a g; clear = row.clear }
