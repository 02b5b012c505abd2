-- The closure of a state is right as sets: for each nonterminal, the lookaheads with which its rules stand in the closure.
-- Assumes nothing.
use Prim.Native.Nat.{ℕ, zero, suc, ◌^◌, ◌<◌}
use Rattle.std.specs.Prelude.{◌≡◌, ◌⊎◌, replicate}
use Rattle.std.proofs.Math.Path.{refl, subst}
use Rattle.std.proofs.Common.{sym, ap, ◌∙◌, inl, inr}
use Rattle.std.proofs.Math.Bool.{true}
use mathlib.Core.List.Memᴰ.{head as mem-head}
use mathlib.Core.List.Memᴰ.{tail as mem-tail}
use mathlib.Core.List.{List, [], ◌∷◌, Memᴰ as Mem}
use native.Mathlib.Omega.{arith}
use Rattle.std.proofs.Math.ListN.{length}
use Rattle.sets.specs.Sets.{bit}
use Rattle.sets.proofs.SetsLaws.{bit-lt, union-lt}
use Rattle.grammar.specs.Automaton.TestLaws.{by-test}
use Rattle.grammar.specs.Automaton.Members.{none_in, member}
use Rattle.grammar.specs.Data.Symbol.{Symbol, terminal, nonterminal, Rule, left_of, right_of, after}
use Rattle.grammar.specs.Data.Book.{Book, Kernel}
use Rattle.grammar.specs.Automaton.Small.{Low, low-after, SmallBook}
use Rattle.grammar.specs.Automaton.Fixpoint.{Constraint, set_at, visit}
use Rattle.grammar.specs.Automaton.LeastLaws.{Family, Within, none-family, none_within, visit-family, visit-keeps, visit-adds, visit-within}
use Rattle.grammar.specs.Automaton.LeastLaws.{Fits, least-family, least-holds, least-closed, least-within}
use Rattle.grammar.specs.Automaton.First.{First}
use Rattle.grammar.specs.Automaton.FirstSets.{Sets, null, first, first_with}
use Rattle.grammar.specs.Automaton.FirstSetsLaws.{SetsRight, first-with, with_first}
use Rattle.grammar.specs.Automaton.Items.{derives, KernelItem, kernel_item, Closure, kernel, close}
use Rattle.grammar.specs.Automaton.SetOf.{set_of-low, set_of-holds, set_of-only}
use Rattle.grammar.specs.Automaton.KernelLines.{LineOf, line_of, in-state}
use Rattle.grammar.specs.Automaton.ClosureSets.{set_of, derives_into, kernels_in, from_kernels, closure_rule, closure_sets}

-- ---- what items give the next nonterminal

-- the constraint gives a to the set at B
abbrev Gives : Constraint → List ℕ → ℕ → ℕ → Type 0
Gives c family B a = (c.target ≡ B) × (bit (c.gives family) a ≡ true)

pub into-target : (F : Sets) (β : List Symbol) (own : List ℕ → ℕ) → Low β → (derives_into F β own).target < 32
unfolding derives_into
into-target F [] own l = omega arith
into-target F (terminal a ∷ β) own l = omega arith
into-target F (nonterminal B ∷ β) own l = l.0

module _ (F : Sets) (low : (β : List Symbol) → Low β → first F β < 2 ^ 32) where
  with-low : (β : List Symbol) (M : ℕ) → Low β → first_with F β M < 2 ^ 32
  unfolding first_with
  with-low β M l = by-test (null F β) _ _ (λ n. n < 2 ^ 32) (λ e. union-lt (first F β) M) (λ e. low β l)

  pub into-low : (β : List Symbol) (own : List ℕ → ℕ) → Low β → (family : List ℕ) → (derives_into F β own).gives family < 2 ^ 32
  unfolding derives_into
  into-low [] own l family = omega arith
  into-low (terminal a ∷ β) own l family = omega arith
  into-low (nonterminal B ∷ β) own l family = go (own family)
    where
      go : (M : ℕ) → elim M [ zero ↦ 0 | suc n ↦ first_with F β (suc n) ] < 2 ^ 32
      go zero = omega arith
      go (suc n) = with-low β (suc n) l.1

module _ {G : List Rule} {F : Sets} (R : SetsRight G F) where
  -- a lookahead given comes from one that the items have
  into-from : (β : List Symbol) (own : List ℕ → ℕ) (family : List ℕ) (a : ℕ) → own family < 2 ^ 32
      → bit ((derives_into F β own).gives family) a ≡ true
      → (γ : List Symbol) × (c : ℕ) × (β ≡ nonterminal (derives_into F β own).target ∷ γ) × (bit (own family) c ≡ true) × First G γ c a
  unfolding derives_into
  into-from [] own family a l e = none_in a e
  into-from (terminal t ∷ β) own family a l e = none_in a e
  into-from (nonterminal B ∷ β) own family a l e = go (own family) l e
    where
      go : (M : ℕ) → M < 2 ^ 32 → bit (elim M [ zero ↦ 0 | suc n ↦ first_with F β (suc n) ]) a ≡ true
          → (γ : List Symbol) × (c : ℕ) × (nonterminal B ∷ β ≡ nonterminal B ∷ γ) × (bit M c ≡ true) × First G γ c a
      go zero m e = none_in a e
      go (suc n) m e =
          let (d, q) = member (suc n) m (λ z. omega arith) in
          let (c, r, f) = with_first R β (suc n) a d q e in
          (β, c, refl, r, f)

  -- and each that FIRST has is given
  into_gives : (B : ℕ) (β γ : List Symbol) (own : List ℕ → ℕ) (family : List ℕ) (a c : ℕ) → Low γ → γ ≡ nonterminal B ∷ β → own family < 2 ^ 32
      → bit (own family) c ≡ true → First G β c a → Gives (derives_into F γ own) family B a
  into_gives B β γ own family a c l h m e f =
      subst (λ (δ : List Symbol). Low δ → Gives (derives_into F δ own) family B a) (sym h) there l
    where
      go : (M : ℕ) → M < 2 ^ 32 → bit M c ≡ true → Low β → bit (elim M [ zero ↦ 0 | suc n ↦ first_with F β (suc n) ]) a ≡ true
      go zero m e k = none_in c e
      go (suc n) m e k = first-with R (suc n) k m e f

      there : Low (nonterminal B ∷ β) → Gives (derives_into F (nonterminal B ∷ β) own) family B a
      there k = unfold derives_into in (refl, go (own family) m e k.1)

-- ---- the closure of a state

module _ (b : Book) where
  -- some item of the closure stands before the nonterminal and directly derives items with the lookahead
  data Enters (S B a : ℕ) : Type 0 where
    enters : {P D c : ℕ} {β : List Symbol} → Closure b S P D c → after b.rules P D ≡ nonterminal B ∷ β → First b.rules β c a
        → Enters S B a

  entered : {S B a Q : ℕ} → Enters S B a → Q < length b.rules → left_of b.rules Q ≡ B → Closure b S Q 0 a
  entered (enters k h f) q e = close k (derives h q e f)

module _ (b : Book) (F : Sets) where
  -- what a kernel line gives
  abbrev line : Kernel → Constraint
  line k = derives_into F (after b.rules k.rule k.dot) (λ _. set_of k.lookaheads)

  -- a line gives the lookahead, whatever sets stand
  abbrev LineGives : Kernel → ℕ → Type 0
  LineGives k a = (family : List ℕ) → bit ((line k).gives family) a ≡ true

  -- the sets that a closure begins with
  abbrev start : ℕ → List ℕ
  start S = from_kernels b F (kernels_in b.kernels S) (replicate 32 0)

  -- an item of a kernel line, or a rule with the dot in front whose left side's set has the lookahead
  abbrev pub Shape : ℕ → ℕ → ℕ → ℕ → Type 0
  Shape S P D a =
      KernelItem b S P D a ⊎ ((D ≡ 0) × (P < length b.rules) × (bit (set_at (closure_sets b F S) (left_of b.rules P)) a ≡ true))

module _ {b : Book} {F : Sets} (H : SmallBook b) (R : SetsRight b.rules F) where
  line-rest : (k : Kernel) → Low (after b.rules k.rule k.dot)
  line-rest k = low-after b.rules H.small_rules k.rule k.dot

  line_low : (k : Kernel) → (line b F k).target < 32
  line_low k = into-target F (after b.rules k.rule k.dot) (λ _. set_of k.lookaheads) (line-rest k)

  visit-line : (k : Kernel) {family : List ℕ} → Family 32 family → Family 32 (visit (line b F k) family)
  visit-line k f = visit-family (line b F k) f (line_low k)

  -- what each line's visit keeps, all keep
  by_lines : (Q : List ℕ → Type 0) (ks : List Kernel)
      → ((k : Kernel) → Mem k ks → (family : List ℕ) → Family 32 family → Q family → Q (visit (line b F k) family))
      → (family : List ℕ) → Family 32 family → Q family → Family 32 (from_kernels b F ks family) × Q (from_kernels b F ks family)
  unfolding from_kernels
  by_lines Q [] keeps family f q = (f, q)
  by_lines Q (k ∷ ks) keeps family f q =
      by_lines Q ks (λ x m. keeps x (mem-tail m)) (visit (line b F k) family) (visit-line k f) (keeps k (mem-head refl) family f q)

  first_gives : (k : Kernel) (ks : List Kernel) (family : List ℕ) → Family 32 family → (a : ℕ) → LineGives b F k a
      → bit (set_at (from_kernels b F (k ∷ ks) family) (line b F k).target) a ≡ true
  unfolding from_kernels
  first_gives k ks family f a g =
      (by_lines (λ s. bit (set_at s (line b F k).target) a ≡ true) ks
      (λ x m s h. visit-keeps (line b F x) h (line_low x) (line b F k).target a) (visit (line b F k) family) (visit-line k f)
      (visit-adds (line b F k) f (line_low k) a (bit-lt _ a small (g family)) (g family))).1
    where
      small : (line b F k).gives family < 2 ^ 32
      small = into-low F R.first_low _ (λ _. set_of k.lookaheads) (line-rest k) family

  lines-give : {k : Kernel} {ks : List Kernel} → Mem k ks → (family : List ℕ) → Family 32 family → (a : ℕ) → LineGives b F k a
      → bit (set_at (from_kernels b F ks family) (line b F k).target) a ≡ true
  unfolding from_kernels
  lines-give (mem-head {x = x} {xs = ks} e) family f a =
      subst (λ (y : Kernel). LineGives b F y a → bit (set_at (from_kernels b F (x ∷ ks) family) (line b F y).target) a ≡ true) (sym e)
      (first_gives x ks family f a)
  lines-give (mem-tail {x = x} m) family f a = lines-give m (visit (line b F x) family) (visit-line x f) a

  line-item : {S : ℕ} {k : Kernel} → Mem k (kernels_in b.kernels S) → (a : ℕ) → bit (set_of k.lookaheads) a ≡ true
      → KernelItem b S k.rule k.dot a
  line-item {S} {k} m a e = let l : LineOf b.kernels S k = line_of m in kernel_item l.there l.of_state refl refl (set_of-only k.lookaheads a e)

  line-enters : {S : ℕ} (k : Kernel) → Mem k (kernels_in b.kernels S) → (family : List ℕ) (a : ℕ) → bit ((line b F k).gives family) a ≡ true
      → Enters b S (line b F k).target a
  line-enters k m family a e =
      let (γ, c, h, q, f) =
      into-from R (after b.rules k.rule k.dot) (λ _. set_of k.lookaheads) family a (set_of-low k.lookaheads) e in
      enters (kernel (line-item m c q)) h f

  start-within : (S : ℕ) → Family 32 (start b F S) × Within (Enters b S) (start b F S)
  start-within S =
      by_lines (Within (Enters b S)) (kernels_in b.kernels S)
      (λ k m family f w. visit-within (line b F k) f (line_low k) (Enters b S) w (line-enters k m family))
      (replicate 32 0) (none-family 32) (none_within (Enters b S) 32)

  -- ---- the closure's sets

  closure-fits : (S : ℕ) → Fits (closure_rule b F) (length b.rules) (start b F S)
  closure-fits S = record {
    few = omega (arith, (start-within S).0.long);
    low = (start-within S).0.low;
    target_low = λ p l. omega (arith, target p l, (start-within S).0.long);
    gives_low = λ p l family f. unfold closure_rule in into-low F R.first_low (right_of b.rules p) (λ s. set_at s (left_of b.rules p)) (right p l) family;
  }
    where
      right : (p : ℕ) → p < length b.rules → Low (right_of b.rules p)
      right = H.small_rules.right_low

      target : (p : ℕ) → p < length b.rules → (closure_rule b F p).target < 32
      target p l = unfold closure_rule in into-target F (right_of b.rules p) (λ s. set_at s (left_of b.rules p)) (right p l)

  pub closure-family : (S : ℕ) → Family 32 (closure_sets b F S)
  unfolding closure_sets
  closure-family S = subst (λ (n : ℕ). Family n (closure_sets b F S)) (start-within S).0.long (least-family (closure-fits S))

  closure-enters : (S : ℕ) → Within (Enters b S) (closure_sets b F S)
  unfolding closure_sets closure_rule
  closure-enters S =
      least-within (closure-fits S) (Enters b S) (start-within S).1 rule-enters
    where
      rule-enters : (p : ℕ) → p < length b.rules → (family : List ℕ) → Family (length (start b F S)) family → Within (Enters b S) family
          → (a : ℕ) → bit ((closure_rule b F p).gives family) a ≡ true → Enters b S (closure_rule b F p).target a
      rule-enters p l family f w a e =
          let (γ, c, h, q, g) =
          into-from R (right_of b.rules p) (λ s. set_at s (left_of b.rules p)) family a (f.low (left_of b.rules p)) e in
          enters (entered b (w (left_of b.rules p) c q) l refl) h g

  kernel-gives : {S P D B a c : ℕ} {β : List Symbol} → KernelItem b S P D c → after b.rules P D ≡ nonterminal B ∷ β → First b.rules β c a
      → bit (set_at (closure_sets b F S) B) a ≡ true
  unfolding closure_sets
  kernel-gives {S} {P} {D} {B} {a} {c} {β} (kernel_item {k = k} m s r d l) h f =
      subst (λ (A : ℕ). bit (set_at (closure_sets b F S) A) a ≡ true) (given (replicate 32 0)).0
      (least-holds (closure-fits S) (line b F k).target a
      (lines-give (in-state m s) (replicate 32 0) (none-family 32) a (λ family. (given family).1)))
    where
      here : after b.rules k.rule k.dot ≡ nonterminal B ∷ β
      here = rw (r, d) h

      given : (family : List ℕ) → Gives (line b F k) family B a
      given family =
          into_gives R B β (after b.rules k.rule k.dot) (λ _. set_of k.lookaheads) family a c
          (line-rest k) here (set_of-low k.lookaheads) (set_of-holds k.lookaheads c (H.low_lookaheads k m c l) l) f

  rule-gives : (S : ℕ) {P B a c : ℕ} {β : List Symbol} → P < length b.rules → bit (set_at (closure_sets b F S) (left_of b.rules P)) c ≡ true
      → right_of b.rules P ≡ nonterminal B ∷ β → First b.rules β c a → bit (set_at (closure_sets b F S) B) a ≡ true
  unfolding closure_sets closure_rule
  rule-gives S {P} {B} {a} {c} {β} p e h f =
      subst (λ (A : ℕ). bit (set_at (closure_sets b F S) A) a ≡ true) given.0 (least-closed (closure-fits S) P a p given.1)
    where
      given : Gives (closure_rule b F P) (closure_sets b F S) B a
      given =
          into_gives R B β (right_of b.rules P) (λ s. set_at s (left_of b.rules P)) (closure_sets b F S) a c
          (H.small_rules.right_low P p) h ((closure-family S).low (left_of b.rules P)) e f

  shape-derives : {S P D B a c : ℕ} {β : List Symbol} → Shape b F S P D c → after b.rules P D ≡ nonterminal B ∷ β → First b.rules β c a
      → bit (set_at (closure_sets b F S) B) a ≡ true
  shape-derives (inl k) h f = kernel-gives k h f
  shape-derives {S = S} {P = P} (inr (z, p, e)) h f = rule-gives S p e (sym (ap (after b.rules P) z) ∙ h) f

  pub closure-shape : {S P D a : ℕ} → Closure b S P D a → Shape b F S P D a
  closure-shape (kernel k) = inl k
  closure-shape {S} (close {a = a} k (derives h q e f)) =
      inr (refl, q, subst (λ (A : ℕ). bit (set_at (closure_sets b F S) A) a ≡ true) (sym e) (shape-derives (closure-shape k) h f))

  -- and such rules stand in it
  pub set-closure : (S P a : ℕ) → P < length b.rules → bit (set_at (closure_sets b F S) (left_of b.rules P)) a ≡ true → Closure b S P 0 a
  set-closure S P a p e = entered b (closure-enters S (left_of b.rules P) a e) p refl
