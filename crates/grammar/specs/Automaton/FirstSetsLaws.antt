-- The computed sets are right: `null` tells which strings derive the empty string, `first` and `first_with` hold what FIRST says.
-- Assumes nothing.
use Rattle.std.specs.Prelude.{ℕ, ◌^◌, ◌<◌, ◌≡◌, Bool, ◌⊎◌, length, replicate}
use Rattle.std.proofs.Math.Path.{refl}
use Rattle.std.proofs.Common.{sym, subst, inl, inr, arith}
use Rattle.std.proofs.Math.Bool.{true, false}
use Rattle.std.proofs.Math.Logic.{⊎_elim}
use mathlib.Core.List.{List, [], ◌∷◌}
use Rattle.sets.specs.Sets.{bit, single, union}
use Rattle.sets.proofs.SetsLaws.{bit-lt, single-lt, union-lt, union_left, union_right, union-either}
use Rattle.grammar.specs.Automaton.TestLaws.{by-test, true-false}
use Rattle.grammar.specs.Automaton.Members.{none_in, single-in, single-is}
use Rattle.grammar.specs.Data.Symbol.{Symbol, terminal, nonterminal, Rule, left_of, right_of}
use Rattle.grammar.specs.Automaton.Small.{Low, Small}
use Rattle.grammar.specs.Automaton.Fixpoint.{set_at, least}
use Rattle.grammar.specs.Automaton.LeastLaws.{Family, Within, none-family, none_within, Fits, least-family, least-closed, least-within}
use Rattle.grammar.specs.Automaton.First.{First}
use Rattle.grammar.specs.Automaton.FirstLaws.{Null, null_end, null-rule, Starts, at_once, inside, beyond, first-shape, starts_first, null-first}
use Rattle.grammar.specs.Automaton.FirstSets.{null_in, first_in, null_rule, nullable, first_rule, first_sets, Sets, sets_of, null, first, first_with}

-- ---- nullable

module _ (nulls : ℕ) (B : ℕ) (β : List Symbol) where
  null-cons : bit nulls B ≡ true → null_in nulls β ≡ true → null_in nulls (nonterminal B ∷ β) ≡ true
  unfolding null_in
  null-cons q n = rw (q, null_in) n

  null-parts : null_in nulls (nonterminal B ∷ β) ≡ true → (bit nulls B ≡ true) × (null_in nulls β ≡ true)
  unfolding null_in
  null-parts e = go (bit nulls B) refl
    where
      go : (t : Bool) → bit nulls B ≡ t → (bit nulls B ≡ true) × (null_in nulls β ≡ true)
      go true q = (q, rw (q, null_in) at e)
      go false q = true-false refl (sym (rw (q, null_in) at e))

module _ (G : List Rule) where
  -- the nonterminal derives the empty string
  abbrev Vanishes : ℕ → Type 0
  Vanishes B = Null G (nonterminal B ∷ [])

  vanish-cons : {B : ℕ} {β : List Symbol} → Vanishes B → Null G β → Null G (nonterminal B ∷ β)
  vanish-cons (null-rule p e n m) k = null-rule p e n k

  null-in : (nulls : ℕ) → ((B : ℕ) → bit nulls B ≡ true → Vanishes B) → (β : List Symbol) → null_in nulls β ≡ true → Null G β
  unfolding null_in
  null-in nulls v [] e = null_end
  null-in nulls v (terminal a ∷ β) e = true-false refl (sym e)
  null-in nulls v (nonterminal B ∷ β) e = let (q, n) = null-parts nulls B β e in vanish-cons (v B q) (null-in nulls v β n)

  -- what a rule gives
  rule-gives : (P : ℕ) (family : List ℕ) (Q : ℕ → Type 0) → (null_in (set_at family 0) (right_of G P) ≡ true → Q (single (left_of G P))) → Q 0
      → Q ((null_rule G P).gives family)
  unfolding null_rule
  rule-gives P family Q given none = by-test (null_in (set_at family 0) (right_of G P)) (single (left_of G P)) 0 Q given (λ _. none)

  null-gives : (P : ℕ) (family : List ℕ) → null_in (set_at family 0) (right_of G P) ≡ true → (null_rule G P).gives family ≡ single (left_of G P)
  unfolding null_rule
  null-gives P family n = rw (n, null_rule)

module _ (G : List Rule) (H : Small G) where
  null-fits : Fits (null_rule G) (length G) (0 ∷ [])
  null-fits = record {
    few = omega arith;
    low = (none-family 1).low;
    target_low = λ p l. unfold null_rule in omega arith;
    gives_low = λ p l family f. rule-gives G p family (λ x. x < 2 ^ 32) (λ _. single-lt (left_of G p) (H.left_low p l)) (omega arith);
  }

  nullable-vanishes : (B : ℕ) → bit (nullable G) B ≡ true → Vanishes G B
  unfolding nullable
  nullable-vanishes B =
      least-within null-fits (λ i. Vanishes G) (none_within (λ i. Vanishes G) 1)
      (λ p l family f w a. rule-gives G p family (λ x. bit x a ≡ true → Vanishes G a)
      (λ n e. null-rule l (single-is (left_of G p) a e) (null-in G (set_at family 0) (w 0) (right_of G p) n) null_end) (none_in a)) 0 B

  left-nullable : (P : ℕ) → P < length G → null_in (nullable G) (right_of G P) ≡ true → bit (nullable G) (left_of G P) ≡ true
  unfolding nullable null_rule
  left-nullable P p n =
      least-closed null-fits P (left_of G P) p
      (rw (null-gives G P (least (null_rule G) (length G) (0 ∷ [])) n) (single-in (left_of G P)))

  rule-nullable : {P B : ℕ} → P < length G → left_of G P ≡ B → null_in (nullable G) (right_of G P) ≡ true → bit (nullable G) B ≡ true
  rule-nullable {P} p e n = subst (λ (A : ℕ). bit (nullable G) A ≡ true) e (left-nullable P p n)

  null-nullable : {β : List Symbol} → Null G β → null_in (nullable G) β ≡ true
  null-nullable null_end = unfold null_in in refl
  null-nullable (null-rule {B = B} {β = β} p e n m) = null-cons (nullable G) B β (rule-nullable p e (null-nullable n)) (null-nullable m)

-- ---- FIRST

-- the parts of what begins a string
module _ (nulls : ℕ) (firsts : List ℕ) (B : ℕ) (β : List Symbol) where
  by_first : (Q : ℕ → Type 0) → (bit nulls B ≡ true → Q (union (set_at firsts B) (first_in nulls firsts β)))
      → (bit nulls B ≡ false → Q (set_at firsts B)) → Q (first_in nulls firsts (nonterminal B ∷ β))
  unfolding first_in
  by_first Q = by-test (bit nulls B) (union (set_at firsts B) (first_in nulls firsts β)) (set_at firsts B) Q

first-lt : (nulls : ℕ) (firsts : List ℕ) → Family 32 firsts → (β : List Symbol) → Low β → first_in nulls firsts β < 2 ^ 32
unfolding first_in
first-lt nulls firsts f [] l = omega arith
first-lt nulls firsts f (terminal a ∷ β) l = single-lt a l.0
first-lt nulls firsts f (nonterminal B ∷ β) l = by_first nulls firsts B β (λ x. x < 2 ^ 32) (λ _. union-lt _ _) (λ _. f.low B)

module _ (nulls : ℕ) {firsts : List ℕ} (f : Family 32 firsts) (B : ℕ) (β : List Symbol) (a : ℕ) where
  first-own : bit (set_at firsts B) a ≡ true → bit (first_in nulls firsts (nonterminal B ∷ β)) a ≡ true
  first-own e = by_first nulls firsts B β (λ x. bit x a ≡ true) (λ _. union_left (set_at firsts B) _ a (bit-lt _ a (f.low B) e) e) (λ _. e)

  first_rest : Low β → bit nulls B ≡ true → bit (first_in nulls firsts β) a ≡ true → bit (first_in nulls firsts (nonterminal B ∷ β)) a ≡ true
  first_rest l v e =
      by_first nulls firsts B β (λ x. bit x a ≡ true) (λ _. union_right (set_at firsts B) _ a (bit-lt _ a (first-lt nulls firsts f β l) e) e)
      (λ q. true-false v q)

module _ (G : List Rule) where
  -- the terminal can begin what the nonterminal derives
  abbrev Begins : ℕ → ℕ → Type 0
  Begins B a = Starts G (nonterminal B ∷ []) a

  begins-cons : {B a : ℕ} {β : List Symbol} → Begins B a → Starts G (nonterminal B ∷ β) a
  begins-cons (inside p e s) = inside p e s
  begins-cons (beyond _ _ _ s) = elim s [ ]

  vanish-starts : {B a : ℕ} {β : List Symbol} → Vanishes G B → Starts G β a → Starts G (nonterminal B ∷ β) a
  vanish-starts (null-rule p e n m) s = beyond p e n s

module _ (G : List Rule) (H : Small G) where
  starts-in : (firsts : List ℕ) → Within (Begins G) firsts → (β : List Symbol) (a : ℕ) → bit (first_in (nullable G) firsts β) a ≡ true → Starts G β a
  unfolding first_in
  starts-in firsts w [] a e = none_in a e
  starts-in firsts w (terminal c ∷ β) a e = rw (single-is c a e) at_once
  starts-in firsts w (nonterminal B ∷ β) a e =
      by_first (nullable G) firsts B β (λ x. bit x a ≡ true → Starts G (nonterminal B ∷ β) a)
      (λ v u. ⊎_elim (λ q. begins-cons G (w B a q)) (λ q. vanish-starts G (nullable-vanishes G H B v) (starts-in firsts w β a q))
      (union-either (set_at firsts B) (first_in (nullable G) firsts β) a (bit-lt _ a (union-lt _ _) u) u))
      (λ _ u. begins-cons G (w B a u)) e

  first_fits : Fits (first_rule G (nullable G)) (length G) (replicate 32 0)
  unfolding first_rule
  first_fits = record {
    few = omega arith;
    low = (none-family 32).low;
    target_low = H.left_low;
    gives_low = λ p l family f. first-lt (nullable G) family f (right_of G p) (H.right_low p l);
  }

  first-begins : Within (Begins G) (first_sets G (nullable G))
  unfolding first_sets first_rule
  first-begins =
      least-within first_fits (Begins G) (none_within (Begins G) 32) (λ p l family f w a e. inside l refl (starts-in family w (right_of G p) a e))

  firsts-family : Family 32 (first_sets G (nullable G))
  unfolding first_sets
  firsts-family = least-family first_fits

  left-first : (P a : ℕ) → P < length G → bit (first_in (nullable G) (first_sets G (nullable G)) (right_of G P)) a ≡ true
      → bit (set_at (first_sets G (nullable G)) (left_of G P)) a ≡ true
  unfolding first_sets first_rule
  left-first P a p = least-closed first_fits P a p

  starts-has : {β : List Symbol} {a : ℕ} → Low β → Starts G β a → bit (first_in (nullable G) (first_sets G (nullable G)) β) a ≡ true
  starts-has l (at_once {a = a}) = unfold first_in in single-in a
  starts-has l (inside {P = P} {B = B} {a = a} {β = β} p e s) =
      first-own (nullable G) firsts-family B β a
      (subst (λ (A : ℕ). bit (set_at (first_sets G (nullable G)) A) a ≡ true) e (left-first P a p (starts-has (H.right_low P p) s)))
  starts-has l (beyond {B = B} {a = a} {β = β} p e n s) =
      first_rest (nullable G) firsts-family B β a l.1 (rule-nullable G H p e (null-nullable G H n)) (starts-has l.1 s)

-- ---- the sets of a grammar

-- what sets must tell of a grammar
pub record SetsRight (G : List Rule) (F : Sets) : Type 0 where
  pub null_told : (β : List Symbol) → Null G β → null F β ≡ true
  pub told_null : (β : List Symbol) → null F β ≡ true → Null G β
  pub first_low : (β : List Symbol) → Low β → first F β < 2 ^ 32
  pub starts_told : (β : List Symbol) (a : ℕ) → Low β → Starts G β a → bit (first F β) a ≡ true
  pub told_starts : (β : List Symbol) (a : ℕ) → bit (first F β) a ≡ true → Starts G β a

pub sets-right : (G : List Rule) → Small G → SetsRight G (sets_of G)
unfolding sets_of null first
sets-right G H = record {
  null_told = λ β. null-nullable G H;
  told_null = null-in G (nullable G) (nullable-vanishes G H);
  first_low = first-lt (nullable G) (first_sets G (nullable G)) (firsts-family G H);
  starts_told = λ β a. starts-has G H;
  told_starts = starts-in G H (first_sets G (nullable G)) (first-begins G H);
}

module _ {G : List Rule} {F : Sets} (R : SetsRight G F) where
  pub first-told : {β : List Symbol} {a b : ℕ} → Low β → First G β b a → (bit (first F β) a ≡ true) ⊎ ((a ≡ b) × (null F β ≡ true))
  first-told {β} {a} l f = ⊎_elim (λ s. inl (R.starts_told β a l s)) (λ n. inr (n.0, R.null_told β n.1)) (first-shape G f)

  -- ---- FIRST(β b) for all b of a set

  by-with : (β : List Symbol) (M : ℕ) (Q : ℕ → Type 0) → (null F β ≡ true → Q (union (first F β) M)) → (null F β ≡ false → Q (first F β))
      → Q (first_with F β M)
  unfolding first_with
  by-with β M Q = by-test (null F β) (union (first F β) M) (first F β) Q

  pub first-with : {β : List Symbol} {a b : ℕ} (M : ℕ) → Low β → M < 2 ^ 32 → bit M b ≡ true → First G β b a → bit (first_with F β M) a ≡ true
  first-with {β} {a} {b} M l m e f = by-with β M (λ x. bit x a ≡ true) more only
    where
      more : null F β ≡ true → bit (union (first F β) M) a ≡ true
      more n =
          ⊎_elim (λ s. union_left (first F β) M a (bit-lt _ a (R.first_low β l) s) s)
          (λ q. rw q.0 (union_right (first F β) M b (bit-lt M b m e) e)) (first-told l f)

      only : null F β ≡ false → bit (first F β) a ≡ true
      only n = ⊎_elim (λ s. s) (λ q. true-false q.1 n) (first-told l f)

  -- what the set holds begins β, or β may be empty and it is of M
  pub with-shape : (β : List Symbol) (M a : ℕ) → bit (first_with F β M) a ≡ true → Starts G β a ⊎ (Null G β × (bit M a ≡ true))
  with-shape β M a =
      by-with β M (λ x. bit x a ≡ true → Starts G β a ⊎ (Null G β × (bit M a ≡ true)))
      (λ n e. ⊎_elim (λ q. inl (R.told_starts β a q)) (λ q. inr (R.told_null β n, q))
      (union-either (first F β) M a (bit-lt _ a (union-lt _ _) e) e))
      (λ _ e. inl (R.told_starts β a e))

  -- so it is of FIRST(β b) for some b of M, if M has any
  pub with_first : (β : List Symbol) (M a c : ℕ) → bit M c ≡ true → bit (first_with F β M) a ≡ true → (b : ℕ) × (bit M b ≡ true) × First G β b a
  with_first β M a c m e =
      ⊎_elim (λ s. (c, m, starts_first G s c)) (λ n. (a, n.1, null-first G n.0 a)) (with-shape β M a e)
