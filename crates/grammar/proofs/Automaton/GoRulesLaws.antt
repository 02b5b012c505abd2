-- The test of the go rules (8) decides them.
-- Assumes what line order, limits and declared names give (WellNamed) and that the listed items are the closure (ItemsRight).
use Rattle.std.specs.Prelude.{ℕ, zero, suc, ◌≤◌, ◌<◌, ◌-◌, ◌≡◌, refl, Bool, true, false, ◌&&◌, eqb, ltb}
use Rattle.std.proofs.Common.{arith, ◌∙◌, ltb-true, ltb-false}
use Rattle.std.proofs.Math.Option.{Option, none, some}
use mathlib.Core.List.Memᴰ.{head as in_head}
use mathlib.Core.List.Memᴰ.{not-nil as not-in-nil}
use mathlib.Core.List.{List, [], ◌∷◌, Memᴰ as Mem}
use Rattle.sets.specs.Sets.{bit, subset}
use Rattle.grammar.specs.Data.Symbol.{Symbol, Rule, after}
use Rattle.grammar.specs.Data.Book.{Book, Kernel, Go}
use Rattle.grammar.specs.Automaton.Items.{KernelItem, kernel_item, Closure}
use Rattle.grammar.specs.Automaton.States.{go_in, go_to, GoRules}
use Rattle.grammar.specs.Automaton.FirstSets.{Sets}
use Rattle.grammar.specs.Automaton.ClosureSets.{set_of, kernels_in}
use Rattle.grammar.specs.Automaton.CoreItems.{Core, core, core_items}
use Rattle.grammar.specs.Automaton.StatesCheck.{holds_item, advances_to, advances, all_advance, states_advance}
use Rattle.grammar.specs.Automaton.StatesCheck.{next_is, comes_from, all_come, some_kernel, go_lines, go_rules}
use Rattle.grammar.specs.Automaton.Compiled.{items_table, items_at}
use Rattle.grammar.specs.Automaton.CompiledTables.{items_table-at, items-past}
use Rattle.grammar.specs.Automaton.ItemsRight.{ItemsRight}
use Rattle.grammar.specs.Conditions.Decides.{Decides, true-decides, false-decides, equivalent, le-decides, eq-decides, and-decides}
use Rattle.grammar.specs.Conditions.DecidesSteps.{All, Some, all_nil, all_cons, some-nil, some-cons, below-zero, below_suc}
use Rattle.grammar.specs.Automaton.WellNamed.{WellNamed, one-kernel}
use Rattle.grammar.specs.Automaton.SetOf.{within-decides}
use Rattle.grammar.specs.Automaton.KernelLines.{LineOf, line_of, in-state}
use Rattle.grammar.specs.Automaton.GoLines.{same_symbol-decides, LineTo, go-line, line-found}
use Rattle.grammar.specs.Automaton.ClosureBounds.{closure-state, closure-terminal}

-- ---- what the tests say

-- a kernel line of (P, D) with at least the lookaheads M
record Holds (P D M : ℕ) (k : Kernel) : Type 0 where
  of-rule : k.rule ≡ P
  of_dot : k.dot ≡ D
  covers : (a : ℕ) → a < 32 → bit M a ≡ true → Mem a k.lookaheads

-- from state S on X a go line leads where (P, D) advanced stands with at least the lookaheads M
record Leads (b : Book) (S P D M : ℕ) (X : Symbol) : Type 0 where
  target : ℕ
  found : go_to b S X ≡ some target
  stands : Some (Holds P (suc D) M) (kernels_in b.kernels target)

abbrev Advances : Book → ℕ → ℕ → ℕ → ℕ → List Symbol → Type 0
Advances b S P D M [] = Unit {0}
Advances b S P D M (X ∷ β) = Leads b S P D M X

abbrev ItemAdvances : Book → ℕ → Core → Type 0
ItemAdvances b S (core P D M) = Advances b S P D M (after b.rules P D)

-- the item is (P, D), and X stands behind its dot
abbrev Comes : List Rule → Symbol → ℕ → ℕ → Core → Type 0
Comes G X P D (core Q E M) = (Q ≡ P) × ((E ≡ D) × ((β : List Symbol) × (after G Q E ≡ X ∷ β)))

-- the kernel line is one of the items advanced over X
abbrev Advanced : List Rule → Symbol → List Core → Kernel → Type 0
Advanced G X items k = (1 ≤ k.dot) × Some (Comes G X k.rule (k.dot - 1)) items

-- the target of the go line has kernel lines, each of them an item advanced over its symbol
abbrev LineRight : Book → (ℕ → List Core) → Go → Type 0
LineRight b items g =
    ((k : Kernel) × Mem k (kernels_in b.kernels g.target))
    × All (Advanced b.rules g.symbol (items g.state)) (kernels_in b.kernels g.target)

-- ---- each test decides what it says

holds_item-decides : (P D M : ℕ) (ks : List Kernel) → Decides (holds_item P D M ks) (Some (Holds P D M) ks)
unfolding holds_item
holds_item-decides P D M [] = some-nil
holds_item-decides P D M (k ∷ ks) = some-cons here (holds_item-decides P D M ks)
  where
    here : Decides (eqb k.rule P && (eqb k.dot D && subset M (set_of k.lookaheads))) (Holds P D M k)
    here =
        equivalent
        (λ h. record { of-rule = h.0; of_dot = h.1.0; covers = h.1.1 })
        (λ h. (h.of-rule, (h.of_dot, h.covers)))
        (and-decides (eq-decides k.rule P) (and-decides (eq-decides k.dot D) (within-decides M k.lookaheads)))

advances-decides : (b : Book) (S P D M : ℕ) (β : List Symbol) → Decides (advances b S P D M β) (Advances b S P D M β)
unfolding advances advances_to
advances-decides b S P D M [] = true-decides tt
advances-decides b S P D M (X ∷ β) = go (go_in b.goes S X) refl
  where
    go : (o : Option ℕ) → go_in b.goes S X ≡ o → Decides (advances_to b P D M o) (Leads b S P D M X)
    go none e = false-decides λ h. let q : go_in b.goes S X ≡ some h.target = h.found in let z : ◌≡◌ {A = ℕ} 0 1 = cc in omega arith
    go (some target) e =
        equivalent
        (λ h. record { target = target; found = e; stands = h })
        (λ h. let q : go_in b.goes S X ≡ some h.target = h.found in let same : h.target ≡ target = cc in rw same at h.stands)
        (holds_item-decides P (suc D) M (kernels_in b.kernels target))

all_advance-decides : (b : Book) (S : ℕ) (items : List Core) → Decides (all_advance b S items) (All (ItemAdvances b S) items)
unfolding all_advance
all_advance-decides b S [] = all_nil
all_advance-decides b S (core P D M ∷ items) = all_cons (advances-decides b S P D M (after b.rules P D)) (all_advance-decides b S items)

states_advance-decides : (b : Book) (items : ℕ → List Core) (n : ℕ)
    → Decides (states_advance b items n) ((S : ℕ) → S < n → All (ItemAdvances b S) (items S))
unfolding states_advance
states_advance-decides b items zero = below-zero
states_advance-decides b items (suc n) = below_suc (all_advance-decides b n (items n)) (states_advance-decides b items n)

next_is-decides : (X : Symbol) (l : List Symbol) → Decides (next_is X l) ((β : List Symbol) × (l ≡ X ∷ β))
unfolding next_is
next_is-decides X [] = false-decides λ h. let e : [] ≡ X ∷ h.0 = h.1 in let z : ◌≡◌ {A = ℕ} 0 1 = cc in omega arith
next_is-decides X (Y ∷ β) = equivalent (λ e. (β, cc)) (λ h. let e : Y ∷ β ≡ X ∷ h.0 = h.1 in cc) (same_symbol-decides X Y)

comes_from-decides : (G : List Rule) (X : Symbol) (P D : ℕ) (items : List Core) → Decides (comes_from G X P D items) (Some (Comes G X P D) items)
unfolding comes_from
comes_from-decides G X P D [] = some-nil
comes_from-decides G X P D (core Q E M ∷ items) =
    some-cons (and-decides (eq-decides Q P) (and-decides (eq-decides E D) (next_is-decides X (after G Q E)))) (comes_from-decides G X P D items)

all_come-decides : (G : List Rule) (X : Symbol) (items : List Core) (ks : List Kernel) → Decides (all_come G X items ks) (All (Advanced G X items) ks)
unfolding all_come
all_come-decides G X items [] = all_nil
all_come-decides G X items (k ∷ ks) =
    all_cons (and-decides (le-decides 1 k.dot) (comes_from-decides G X k.rule (k.dot - 1) items)) (all_come-decides G X items ks)

some_kernel-decides : (ks : List Kernel) → Decides (some_kernel ks) ((k : Kernel) × Mem k ks)
unfolding some_kernel
some_kernel-decides [] = false-decides λ h. not-in-nil h.1
some_kernel-decides (k ∷ ks) = true-decides (k, in_head refl)

go_lines-decides : (b : Book) (items : ℕ → List Core) (gs : List Go) → Decides (go_lines b items gs) (All (LineRight b items) gs)
unfolding go_lines
go_lines-decides b items [] = all_nil
go_lines-decides b items (g ∷ gs) =
    all_cons
    (and-decides (some_kernel-decides (kernels_in b.kernels g.target))
    (all_come-decides b.rules g.symbol (items g.state) (kernels_in b.kernels g.target)))
    (go_lines-decides b items gs)

-- the kernel line of an item's state, rule and dot has its lookahead
in-line : {b : Book} → WellNamed b → {S P D a : ℕ} → KernelItem b S P D a → (k : Kernel) → Mem k b.kernels → k.state ≡ S → k.rule ≡ P → k.dot ≡ D
    → Mem a k.lookaheads
in-line w (kernel_item {k = l} m s r d i) k n s' r' d' =
    rw (one-kernel w l k m n (record { same_state = cc; same_rule = cc; same_dot = cc })) at i

-- ---- the test of the go rules, by any table of the listed items

module _ {b : Book} {F : Sets} {R : List ℕ} (w : WellNamed b) (right : ItemsRight b F R) (items : ℕ → List Core)
    (listed : (S : ℕ) → S < b.states → items S ≡ core_items b F S) where
  -- what the two tests decide
  record Tested : Type 0 where
    states-advance : (S : ℕ) → S < b.states → All (ItemAdvances b S) (items S)
    lines_right : All (LineRight b items) b.goes

  -- sets hold every lookahead of a closure
  small : {S P D a : ℕ} → Closure b S P D a → a < 32
  small c = omega (arith, closure-terminal w c, w.terminals_fit)

  in_table : (S : ℕ) → S < b.states → (c : Core) → Mem c (core_items b F S) → Mem c (items S)
  in_table S l c m = rw (listed S l) m

  in_list : (S : ℕ) → S < b.states → (c : Core) → Mem c (items S) → Mem c (core_items b F S)
  in_list S l c m = rw (listed S l) at m

  -- the go line of a closure item, by the set of lookaheads that the item is listed with
  record Lead (S P D a : ℕ) (X : Symbol) : Type 0 where
    lookaheads : ℕ
    holds : bit lookaheads a ≡ true
    line : Leads b S P D lookaheads X

  -- where a kernel line of a target comes from
  abbrev Origin : ℕ → Symbol → Kernel → Type 0
  Origin S X k =
      (D : ℕ) × (a : ℕ) × (β : List Symbol) × (k.dot ≡ suc D) × Closure b S k.rule D a × (after b.rules k.rule D ≡ X ∷ β)

  module _ (t : Tested) where
    lead : (S P D a : ℕ) (X : Symbol) (β : List Symbol) → Closure b S P D a → after b.rules P D ≡ X ∷ β → Lead S P D a X
    lead S P D a X β c e =
        let (M, m, p) = right.closure_core S P D a c in
        let l : S < b.states = closure-state w c in
        record { lookaheads = M; holds = p; line = rw e at (t.states-advance S l (core P D M) (in_table S l (core P D M) m)) }

    has : (S P D a M : ℕ) (X : Symbol) (β : List Symbol) → go_to b S X ≡ some M → Closure b S P D a → after b.rules P D ≡ X ∷ β
        → KernelItem b M P (suc D) a
    has S P D a M X β g c e = go (lead S P D a X β c e)
      where
        go : Lead S P D a X → KernelItem b M P (suc D) a
        go l =
            let (k, m, h) = l.line.stands in
            let q : LineOf b.kernels l.line.target k = line_of m in
            let f : go_to b S X ≡ some l.line.target = l.line.found in
            let same : l.line.target ≡ M = cc in
            kernel_item q.there (q.of_state ∙ same) h.of-rule h.of_dot (h.covers a (small c) l.holds)

    from-item : (S : ℕ) (X : Symbol) (k : Kernel) → S < b.states → 1 ≤ k.dot → (c : Core) → Mem c (items S)
        → Comes b.rules X k.rule (k.dot - 1) c → Origin S X k
    from-item S X k l pos (core Q E N) m (q, (d, (β, e))) =
        let n : Mem (core k.rule (k.dot - 1) N) (core_items b F S) = rw (q, d) at (in_list S l (core Q E N) m) in
        let (a, p) = right.core_some S k.rule (k.dot - 1) N n in
        (k.dot - 1, a, β, omega arith, right.core_closure S k.rule (k.dot - 1) N a n p, rw (q, d) at e)

    only : (S M : ℕ) (X : Symbol) (k : Kernel) → go_to b S X ≡ some M → Mem k b.kernels → k.state ≡ M → Origin S X k
    only S M X k g m e = go (go-line g)
      where
        go : LineTo b.goes S X M → Origin S X k
        go l =
            let (pos, (c, n, comes)) = (t.lines_right l.line l.there).1 k (in-state m (cc)) in
            let below : l.line.state < b.states = w.go_states l.line l.there in
            rw (← l.from_state, ← l.on_symbol) (from-item l.line.state l.line.symbol k below pos c n comes)

    needs : (S M : ℕ) (X : Symbol) → go_to b S X ≡ some M
        → (P : ℕ) × (D : ℕ) × (a : ℕ) × (β : List Symbol) × Closure b S P D a × (after b.rules P D ≡ X ∷ β)
    needs S M X g =
        let l : LineTo b.goes S X M = go-line g in
        let (k, m) = (t.lines_right l.line l.there).0 in
        let q : LineOf b.kernels l.line.target k = line_of m in
        let (D, a, β, d, c, e) = only S M X k g q.there (cc) in
        (k.rule, D, a, β, c, e)

    rules-hold : GoRules b
    rules-hold =
        record {
          go_there = λ S P D a X β c e. let l : Leads b S P D _ X = (lead S P D a X β c e).line in (l.target, l.found);
          go_needs = needs;
          go_has = has;
          go_only = only;
        }

  module _ (h : GoRules b) where
    item-advances : (S : ℕ) (c : Core) → Mem c (core_items b F S) → ItemAdvances b S c
    item-advances S (core P D M) m = go (after b.rules P D) refl
      where
        leads : (X : Symbol) (β : List Symbol) → after b.rules P D ≡ X ∷ β → (target : ℕ) → go_to b S X ≡ some target → (a : ℕ) → bit M a ≡ true
            → KernelItem b target P (suc D) a → Leads b S P D M X
        leads X β e target g a p (kernel_item {k = k} n s r d i) =
            record {
              target = target;
              found = g;
              stands = (k, in-state n s, record { of-rule = r; of_dot = d; covers = covers });
            }
          where
            covers : (c : ℕ) → c < 32 → bit M c ≡ true → Mem c k.lookaheads
            covers c l q = in-line w (h.go_has S P D c target X β g (right.core_closure S P D M c m q) e) k n s r d

        go : (β : List Symbol) → after b.rules P D ≡ β → Advances b S P D M β
        go [] e = tt
        go (X ∷ β) e =
            let (a, p) = right.core_some S P D M m in
            let c : Closure b S P D a = right.core_closure S P D M a m p in
            let (target, g) = h.go_there S P D a X β c e in
            leads X β e target g a p (h.go_has S P D a target X β g c e)

    line_right : (g : Go) → Mem g b.goes → LineRight b items g
    line_right g m =
        let found : go_to b g.state g.symbol ≡ some g.target = line-found w g m in
        let (P, D, a, β, c, e) = h.go_needs g.state g.target g.symbol found in
        (some-line (h.go_has g.state P D a g.target g.symbol β found c e), comes found)
      where
        some-line : {P D a : ℕ} → KernelItem b g.target P D a → (k : Kernel) × Mem k (kernels_in b.kernels g.target)
        some-line (kernel_item {k = k} n s r d i) = (k, in-state n s)

        comes : go_to b g.state g.symbol ≡ some g.target → All (Advanced b.rules g.symbol (items g.state)) (kernels_in b.kernels g.target)
        comes found k n =
            let q : LineOf b.kernels g.target k = line_of n in
            let (D, a, β, d, c, e) = h.go_only g.state g.target g.symbol k found q.there q.of_state in
            let (N, i, p) = right.closure_core g.state k.rule D a c in
            (omega arith, (core k.rule D N, in_table g.state (w.go_states g m) (core k.rule D N) i, (refl, (omega arith, (β, e)))))

    tests-hold : Tested
    tests-hold = record { states-advance = λ S l c m. item-advances S c (in_list S l c m); lines_right = line_right }

  pub go_rules-decides : Decides (go_rules b items) (GoRules b)
  unfolding go_rules
  go_rules-decides =
      equivalent
      (λ h. rules-hold (record { states-advance = h.0; lines_right = h.1 }))
      (λ h. let t : Tested = tests-hold h in (t.states-advance, t.lines_right))
      (and-decides (states_advance-decides b items b.states) (go_lines-decides b items b.goes))

-- ---- the table of the listed items

module _ {b : Book} {F : Sets} {R : List ℕ} (w : WellNamed b) (right : ItemsRight b F R) where
  -- the table has the listed items of every state: past the last state there are none
  pub items-listed : (S : ℕ) → items_at b (items_table b F) S ≡ core_items b F S
  items-listed S = by (ltb S b.states) refl
    where
      nothing : b.states ≤ S → (items : List Core) → core_items b F S ≡ items → [] ≡ items
      nothing h [] e = refl
      nothing h (core P D M ∷ items) e =
          let m : Mem (core P D M) (core_items b F S) = rw e (in_head refl) in
          let (a, p) = right.core_some S P D M m in
          let l : S < b.states = closure-state w (right.core_closure S P D M a m p) in
          absurd (omega arith)

      by : (t : Bool) → ltb S b.states ≡ t → items_at b (items_table b F) S ≡ core_items b F S
      by true e = items_table-at b F S (ltb-true S b.states e)
      by false e = let h : b.states ≤ S = ltb-false S b.states e in items-past b F S h ∙ nothing h (core_items b F S) refl

  -- 8, by the table of the listed items
  pub go_table-decides : Decides (go_rules b (items_at b (items_table b F))) (GoRules b)
  go_table-decides = go_rules-decides w right (items_at b (items_table b F)) (λ S h. items-listed S)
