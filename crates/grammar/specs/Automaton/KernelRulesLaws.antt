-- The test of the kernel rules (7) decides them.
-- Assumes what line order, limits and declared names give (WellNamed).
use Rattle.std.specs.Prelude.{ℕ, zero, suc, ◌≤◌, ◌<◌, ◌-◌, ◌≡◌, refl, ◌≢◌, Bool, true, false}
use Rattle.std.proofs.Common.{arith, ◌∙◌}
use Rattle.std.proofs.Math.Path.{sym}
use mathlib.Core.List.Memᴰ.{head as in_head}
use mathlib.Core.List.Memᴰ.{not-nil as not-in-nil}
use mathlib.Core.List.Memᴰ.{tail as in_Tail}
use mathlib.Core.List.{List, [], ◌∷◌, Memᴰ as Mem}
use mathlib.Core.List.Memᴰ.{eq_of_singleton as in_one}
use Rattle.grammar.specs.Data.Symbol.{Symbol, Rule, symbol_at}
use Rattle.grammar.specs.Data.Book.{Book, Kernel}
use Rattle.grammar.specs.Automaton.States.{start_kernel, KernelRules}
use Rattle.grammar.specs.Automaton.ClosureSets.{kernels_in}
use Rattle.grammar.specs.Automaton.StatesCheck.{end_alone, start_state, one_symbol, other_state, other_states, start_lookaheads, kernel_rules}
use Rattle.grammar.specs.Conditions.Decides.{Decides, true-decides, false-decides, equivalent, le-decides, eq-decides, and-decides}
use Rattle.grammar.specs.Conditions.DecidesSteps.{All, all_nil, all_cons, below-zero, below_suc}
use Rattle.grammar.specs.Automaton.WellNamed.{Distinct, next, SameItem, WellNamed}
use Rattle.grammar.specs.Automaton.KernelLines.{LineOf, line_of, in-state, distinct-lines}
use Rattle.grammar.specs.Automaton.GoLines.{same_symbol-decides}

-- ---- each test decides what it says

end_alone-decides : (l : List ℕ) → Decides (end_alone l) (l ≡ 0 ∷ [])
unfolding end_alone
end_alone-decides [] = false-decides λ e. let z : ◌≡◌ {A = ℕ} 0 1 = cc in omega arith
end_alone-decides (a ∷ []) = equivalent (λ e. cc) (λ e. cc) (eq-decides a 0)
end_alone-decides (a ∷ c ∷ l) = false-decides λ e. let z : ◌≡◌ {A = ℕ} 0 1 = cc in omega arith

-- "State 0 has the one kernel (0,0) with t0 alone", of the lines of state 0
record StartAlone (ks : List Kernel) : Type 0 where
  start_there : Mem start_kernel ks
  start_only : All (λ k. k ≡ start_kernel) ks

start_state-decides : (ks : List Kernel) → All (λ k. k.state ≡ 0) ks → Distinct SameItem ks → Decides (start_state ks) (StartAlone ks)
unfolding start_state
start_state-decides [] zeros d = false-decides λ h. not-in-nil h.start_there
start_state-decides (k ∷ []) zeros d =
    equivalent join split (and-decides (eq-decides k.rule 0) (and-decides (eq-decides k.dot 0) (end_alone-decides k.lookaheads)))
  where
    join : ((k.rule ≡ 0) × ((k.dot ≡ 0) × (k.lookaheads ≡ 0 ∷ []))) → StartAlone (k ∷ [])
    join h =
        let e : k ≡ start_kernel = λ i. record { state = zeros k (in_head refl) i; rule = h.0 i; dot = h.1.0 i; lookaheads = h.1.1 i } in
        record { start_there = in_head (sym e); start_only = λ l m. in_one m ∙ e }

    split : StartAlone (k ∷ []) → (k.rule ≡ 0) × ((k.dot ≡ 0) × (k.lookaheads ≡ 0 ∷ []))
    split h = let e : k ≡ start_kernel = h.start_only k (in_head refl) in (cc, (cc, cc))
start_state-decides (k ∷ l ∷ ks) zeros d = false-decides λ h. twice d (h.start_only k (in_head refl)) (h.start_only l (in_Tail (in_head refl)))
  where
    twice : Distinct SameItem (k ∷ l ∷ ks) → k ≡ start_kernel → l ≡ start_kernel → ⊥
    twice (next distinct d) p q = distinct l (in_head refl) (record { same_state = cc; same_rule = cc; same_dot = cc })

-- "Any other state has a kernel, all dots at least 1, one and the same symbol before every dot", of the lines of such a state
record OneSymbol (G : List Rule) (ks : List Kernel) : Type 0 where
  has_kernel : (k : Kernel) × Mem k ks
  dots : All (λ k. 1 ≤ k.dot) ks
  one_symbol : (k l : Kernel) → Mem k ks → Mem l ks → symbol_at G k.rule k.dot ≡ symbol_at G l.rule l.dot

module _ (G : List Rule) where
  one_symbol-decides : (X : Symbol) (ks : List Kernel)
      → Decides (one_symbol G X ks) (All (λ k. (1 ≤ k.dot) × (symbol_at G k.rule k.dot ≡ X)) ks)
  unfolding one_symbol
  one_symbol-decides X [] = all_nil
  one_symbol-decides X (k ∷ ks) =
      all_cons (and-decides (le-decides 1 k.dot) (same_symbol-decides (symbol_at G k.rule k.dot) X)) (one_symbol-decides X ks)

  other_state-decides : (ks : List Kernel) → Decides (other_state G ks) (OneSymbol G ks)
  unfolding other_state
  other_state-decides [] = false-decides λ h. not-in-nil h.has_kernel.1
  other_state-decides (k ∷ ks) =
      equivalent
      (λ h. record { has_kernel = (k, in_head refl); dots = λ l m. (h l m).0; one_symbol = λ l n p q. (h l p).1 ∙ sym (h n q).1 })
      (λ h l m. (h.dots l m, h.one_symbol l k m (in_head refl)))
      (one_symbol-decides (symbol_at G k.rule k.dot) (k ∷ ks))

other_states-decides : (b : Book) (n : ℕ) → Decides (other_states b n) ((i : ℕ) → i < n → OneSymbol b.rules (kernels_in b.kernels (suc i)))
unfolding other_states
other_states-decides b zero = below-zero
other_states-decides b (suc n) =
    below_suc (other_state-decides b.rules (kernels_in b.kernels (suc n))) (other_states-decides b n)

start_lookaheads-decides : (ks : List Kernel) → Decides (start_lookaheads ks) (All (λ k. k.rule ≡ 0 → k.lookaheads ≡ 0 ∷ []) ks)
unfolding start_lookaheads
start_lookaheads-decides [] = all_nil
start_lookaheads-decides (k ∷ ks) = go k.rule refl (start_lookaheads-decides ks)
  where
    go : (P : ℕ) → k.rule ≡ P → {t : Bool} → Decides t (All (λ l. l.rule ≡ 0 → l.lookaheads ≡ 0 ∷ []) ks)
        → Decides (elim P [ zero ↦ elim (end_alone k.lookaheads) [ true ↦ t | false ↦ false ] | suc Q ↦ t ])
        (All (λ l. l.rule ≡ 0 → l.lookaheads ≡ 0 ∷ []) (k ∷ ks))
    go zero e d = all_cons (equivalent (λ h z. h) (λ h. h e) (end_alone-decides k.lookaheads)) d
    go (suc Q) e d = all_cons (true-decides λ z. absurd (omega arith)) d

-- ---- the kernel rules

module _ {b : Book} (w : WellNamed b) where
  -- what the three tests decide
  record Tested : Type 0 where
    start : StartAlone (kernels_in b.kernels 0)
    others : (i : ℕ) → i < b.states - 1 → OneSymbol b.rules (kernels_in b.kernels (suc i))
    lookaheads : All (λ k. k.rule ≡ 0 → k.lookaheads ≡ 0 ∷ []) b.kernels

  rules-hold : Tested → KernelRules b
  rules-hold h =
      record {
        start_there = let l : LineOf b.kernels 0 start_kernel = line_of h.start.start_there in l.there;
        start_only = λ k m e. h.start.start_only k (in-state m e);
        has_kernel = λ S p l. kernel-of S (other S (λ z. omega arith) l).has_kernel;
        dots = λ k m n. (other k.state n (w.kernel-states k m)).dots k (in-state m refl);
        one_symbol = λ k l m m' n e.
            (other k.state n (w.kernel-states k m)).one_symbol k l (in-state m refl) (in-state m' (sym e));
        start_lookahead = h.lookaheads;
      }
    where
      other : (S : ℕ) → S ≢ 0 → S < b.states → OneSymbol b.rules (kernels_in b.kernels S)
      other zero n l = absurd (n refl)
      other (suc i) n l = h.others i (omega arith)

      kernel-of : (S : ℕ) → (k : Kernel) × Mem k (kernels_in b.kernels S) → (k : Kernel) × Mem k b.kernels × (k.state ≡ S)
      kernel-of S (k, m) = let l : LineOf b.kernels S k = line_of m in (k, l.there, l.of_state)

  tests-hold : KernelRules b → Tested
  tests-hold h =
      record {
        start =
            record {
              start_there = in-state h.start_there refl;
              start_only = λ k m. let l : LineOf b.kernels 0 k = line_of m in h.start_only k l.there l.of_state;
            };
        others = λ i l. other (suc i) (omega arith) (omega arith);
        lookaheads = h.start_lookahead;
      }
    where
      other : (S : ℕ) → 0 < S → S < b.states → OneSymbol b.rules (kernels_in b.kernels S)
      other S p l =
          record {
            has_kernel = let (k, m, e) = h.has_kernel S p l in (k, in-state m e);
            dots = λ k m. let q : LineOf b.kernels S k = line_of m in h.dots k q.there (λ z. omega arith);
            one_symbol = λ k n m m'.
                let q : LineOf b.kernels S k = line_of m in
                let r : LineOf b.kernels S n = line_of m' in
                h.one_symbol k n q.there r.there (λ z. omega arith) (cc);
          }

  pub kernel_rules-decides : Decides (kernel_rules b) (KernelRules b)
  unfolding kernel_rules
  kernel_rules-decides =
      equivalent
      (λ h. rules-hold (record { start = h.0; others = h.1.0; lookaheads = h.1.1 }))
      (λ h. let t : Tested = tests-hold h in (t.start, (t.others, t.lookaheads)))
      (and-decides
      (start_state-decides (kernels_in b.kernels 0) of_zero (distinct-lines 0 w.distinct_kernels))
      (and-decides (other_states-decides b (b.states - 1)) (start_lookaheads-decides b.kernels)))
    where
      of_zero : All (λ k. k.state ≡ 0) (kernels_in b.kernels 0)
      of_zero k m = let l : LineOf b.kernels 0 k = line_of m in l.of_state
