-- The listed items of a state are its closure, each with at least one lookahead.
-- Assumes nothing.
use Prim.Native.Nat.{ℕ, zero, suc, ◌^◌, ◌<◌}
use Rattle.std.specs.Prelude.{◌≡◌, refl, true, ◌⊎◌, length}
use Rattle.std.proofs.Common.{sym, ap, subst, arith}
use Rattle.std.proofs.Math.Logic.{inl, inr, ⊎_elim}
use mathlib.Core.List.Memᴰ.{head as mem-head}
use mathlib.Core.List.Memᴰ.{tail as mem-tail}
use mathlib.Core.List.{List, [], ◌∷◌, Memᴰ as Mem}
use mathlib.Core.List.Memᴰ.{cases_cons}
use mathlib.Core.List.Memᴰ.{not-nil}
use mathlib.Core.List.Memᴰ.{append_cases}
use mathlib.Core.List.Memᴰ.{append_left}
use mathlib.Core.List.Memᴰ.{append_right}
use mathlib.Core.List.Memᴰ.{cast}
use Rattle.sets.specs.Sets.{bit}
use Rattle.sets.specs.Bits.{below_suc}
use Rattle.grammar.specs.Automaton.Members.{some-not-none, member}
use Rattle.grammar.specs.Data.Symbol.{Rule, left_of}
use Rattle.grammar.specs.Data.Book.{Book, Kernel}
use Rattle.grammar.specs.Automaton.Small.{SmallBook}
use Rattle.grammar.specs.Automaton.Fixpoint.{set_at}
use Rattle.grammar.specs.Automaton.FirstSets.{Sets}
use Rattle.grammar.specs.Automaton.FirstSetsLaws.{SetsRight}
use Rattle.grammar.specs.Automaton.Items.{kernel_item, Closure, kernel}
use Rattle.grammar.specs.Automaton.ClosureSets.{set_of, kernels_in, closure_sets}
use Rattle.grammar.specs.Automaton.SetOf.{set_of-low, set_of-holds, set_of-only}
use Rattle.grammar.specs.Automaton.KernelLines.{LineOf, line_of, in-state}
use Rattle.grammar.specs.Automaton.ClosureLaws.{closure-family, Shape, closure-shape, set-closure}
use Rattle.grammar.specs.Automaton.CoreItems.{Core, core, of_kernels, entered, of_rules, core_items}

-- ---- the items of kernel lines

-- the kernel line of a listed item
pub record OfKernel (ks : List Kernel) (P D M : ℕ) : Type 0 where
  pub line : Kernel
  pub listed : Mem line ks
  pub rule_is : line.rule ≡ P
  pub dot_is : line.dot ≡ D
  pub set_is : set_of line.lookaheads ≡ M

has-of_kernels : (ks : List Kernel) (P D M : ℕ) → Mem (core P D M) (of_kernels ks) → OfKernel ks P D M
unfolding of_kernels
has-of_kernels [] P D M m = absurd (not-nil m)
has-of_kernels (k ∷ ks) P D M m = ⊎_elim own (λ n. further (has-of_kernels ks P D M n)) (cases_cons m)
  where
    own : core P D M ≡ core k.rule k.dot (set_of k.lookaheads) → OfKernel (k ∷ ks) P D M
    own e = record { line = k; listed = mem-head refl; rule_is = cc; dot_is = cc; set_is = cc }

    further : OfKernel ks P D M → OfKernel (k ∷ ks) P D M
    further o = record { line = o.line; listed = mem-tail o.listed; rule_is = o.rule_is; dot_is = o.dot_is; set_is = o.set_is }

of_kernels-has : {k : Kernel} {ks : List Kernel} → Mem k ks → Mem (core k.rule k.dot (set_of k.lookaheads)) (of_kernels ks)
unfolding of_kernels
of_kernels-has (mem-head e) = mem-head (ap (λ (k : Kernel). core k.rule k.dot (set_of k.lookaheads)) e)
of_kernels-has (mem-tail m) = mem-tail (of_kernels-has m)

-- ---- the items with the dot in front

pub record OfRule (G : List Rule) (looks : List ℕ) (n P D M : ℕ) : Type 0 where
  pub below : P < n
  pub dot_is : D ≡ 0
  pub set_is : set_at looks (left_of G P) ≡ M
  pub some : M ≡ 0 → ⊥

-- an entry is the one entered, which is not empty, or one of those before
has-entered : (Q N : ℕ) (cs : List Core) (P D M : ℕ) → Mem (core P D M) (entered Q N cs)
    → ((P ≡ Q) × (D ≡ 0) × (N ≡ M) × (M ≡ 0 → ⊥)) ⊎ Mem (core P D M) cs
unfolding entered
has-entered Q zero cs P D M m = inr m
has-entered Q (suc N) cs P D M m = ⊎_elim own inr (cases_cons m)
  where
    own : core P D M ≡ core Q 0 (suc N) → ((P ≡ Q) × (D ≡ 0) × (suc N ≡ M) × (M ≡ 0 → ⊥)) ⊎ Mem (core P D M) cs
    own e = let s : suc N ≡ M = cc in inl (cc, cc, s, λ z. omega arith)

entered-has : (P N : ℕ) (cs : List Core) → (N ≡ 0 → ⊥) → Mem (core P 0 N) (entered P N cs)
unfolding entered
entered-has P zero cs h = absurd (h refl)
entered-has P (suc N) cs h = mem-head refl

entered-keeps : (Q N : ℕ) {cs : List Core} {c : Core} → Mem c cs → Mem c (entered Q N cs)
unfolding entered
entered-keeps Q zero m = m
entered-keeps Q (suc N) m = mem-tail m

module _ (G : List Rule) (looks : List ℕ) where
  has-of_rules : (n P D M : ℕ) → Mem (core P D M) (of_rules G looks n) → OfRule G looks n P D M
  unfolding of_rules
  has-of_rules zero P D M m = absurd (not-nil m)
  has-of_rules (suc n) P D M m =
      ⊎_elim own (λ o. further (has-of_rules n P D M o)) (has-entered n (set_at looks (left_of G n)) (of_rules G looks n) P D M m)
    where
      own : (P ≡ n) × (D ≡ 0) × (set_at looks (left_of G n) ≡ M) × (M ≡ 0 → ⊥) → OfRule G looks (suc n) P D M
      own (p, d, s, h) = record { below = omega arith; dot_is = d; set_is = rw p s; some = h }

      further : OfRule G looks n P D M → OfRule G looks (suc n) P D M
      further o = record { below = omega (arith, o.below); dot_is = o.dot_is; set_is = o.set_is; some = o.some }

  of_rules-has : (n P : ℕ) → P < n → (set_at looks (left_of G P) ≡ 0 → ⊥) → Mem (core P 0 (set_at looks (left_of G P))) (of_rules G looks n)
  unfolding of_rules
  of_rules-has zero P l h = absurd (omega arith)
  of_rules-has (suc n) P l h =
      below_suc (λ Q. (set_at looks (left_of G Q) ≡ 0 → ⊥) → Mem (core Q 0 (set_at looks (left_of G Q))) (of_rules G looks (suc n))) n P l
      (λ m k. entered-keeps n (set_at looks (left_of G n)) (of_rules-has n P m k)) (entered-has n (set_at looks (left_of G n)) (of_rules G looks n)) h

-- ---- the items of a state

module _ (b : Book) (F : Sets) where
  -- a listed item is that of a kernel line of the state, or of a rule with the dot in front
  abbrev Source : ℕ → ℕ → ℕ → ℕ → Type 0
  Source S P D M = OfKernel (kernels_in b.kernels S) P D M ⊎ OfRule b.rules (closure_sets b F S) (length b.rules) P D M

  source : (S P D M : ℕ) → Mem (core P D M) (core_items b F S) → Source S P D M
  unfolding core_items
  source S P D M m =
      ⊎_elim (λ k. inl (has-of_kernels (kernels_in b.kernels S) P D M k))
      (λ r. inr (has-of_rules b.rules (closure_sets b F S) (length b.rules) P D M r)) (append_cases (of_kernels (kernels_in b.kernels S)) m)

module _ {b : Book} {F : Sets} (H : SmallBook b) (R : SetsRight b.rules F) where
  pub core-low : (S P D M : ℕ) → Mem (core P D M) (core_items b F S) → M < 2 ^ 32
  core-low S P D M m = go (source b F S P D M m)
    where
      go : Source b F S P D M → M < 2 ^ 32
      go (inl o) = subst (λ (x : ℕ). x < 2 ^ 32) o.set_is (set_of-low o.line.lookaheads)
      go (inr o) = subst (λ (x : ℕ). x < 2 ^ 32) o.set_is ((closure-family H R S).low (left_of b.rules P))

  pub core_some : (S P D M : ℕ) → Mem (core P D M) (core_items b F S) → (a : ℕ) × (bit M a ≡ true)
  core_some S P D M m = go (source b F S P D M m)
    where
      go : Source b F S P D M → (a : ℕ) × (bit M a ≡ true)
      go (inl o) =
          let line : LineOf b.kernels S o.line = line_of o.listed in
          let here = line.there in
          let (a, l) = H.some_lookahead o.line here in
          (a, subst (λ (x : ℕ). bit x a ≡ true) o.set_is (set_of-holds o.line.lookaheads a (H.low_lookaheads o.line here a l) l))
      go (inr o) = member M (core-low S P D M m) o.some

  pub core_closure : (S P D M a : ℕ) → Mem (core P D M) (core_items b F S) → bit M a ≡ true → Closure b S P D a
  core_closure S P D M a m e = go (source b F S P D M m)
    where
      go : Source b F S P D M → Closure b S P D a
      go (inl o) =
          let line : LineOf b.kernels S o.line = line_of o.listed in
          kernel
          (kernel_item line.there line.of_state o.rule_is o.dot_is (set_of-only o.line.lookaheads a (subst (λ (x : ℕ). bit x a ≡ true) (sym o.set_is) e)))
      go (inr o) =
          subst (λ (x : ℕ). Closure b S P x a) (sym o.dot_is)
          (set-closure H R S P a o.below (subst (λ (x : ℕ). bit x a ≡ true) (sym o.set_is) e))

  pub closure_core : (S P D a : ℕ) → Closure b S P D a → (M : ℕ) × Mem (core P D M) (core_items b F S) × (bit M a ≡ true)
  unfolding core_items
  closure_core S P D a c = go (closure-shape H R c)
    where
      go : Shape b F S P D a → (M : ℕ) × Mem (core P D M) (core_items b F S) × (bit M a ≡ true)
      go (inl (kernel_item {k = k} m s r d l)) =
          let same : core P D (set_of k.lookaheads) ≡ core k.rule k.dot (set_of k.lookaheads) = cc in (
            set_of k.lookaheads,
            cast same (append_left (of_rules b.rules (closure_sets b F S) (length b.rules)) (of_kernels-has (in-state m s))),
            set_of-holds k.lookaheads a (H.low_lookaheads k m a l) l,
          )
      go (inr (z, p, e)) =
          let M : ℕ = set_at (closure_sets b F S) (left_of b.rules P) in
          let same : core P D M ≡ core P 0 M = cc in
          let there = of_rules-has b.rules (closure_sets b F S) (length b.rules) P p (some-not-none M a e) in
          (M, cast same (append_right (of_kernels (kernels_in b.kernels S)) there), e)
