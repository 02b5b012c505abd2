-- The reached sets are right: `reach_with` holds the terminals that items with the lookaheads of a set reach.
-- Assumes nothing.
use Rattle.std.specs.Prelude.{ℕ, ◌^◌, ◌<◌, ◌≡◌, Bool, ◌⊎◌, length, replicate}
use Rattle.std.proofs.Math.Path.{refl}
use Rattle.std.proofs.Common.{subst, inl, inr, ne_eqb}
use Rattle.std.proofs.Math.Bool.{true, false}
use Rattle.std.proofs.Math.Logic.{⊎_elim}
use mathlib.Core.List.{List, [], ◌∷◌}
use native.Mathlib.Omega.{arith}
use Rattle.std.proofs.lemmas.Bool.{eqb-false}
use Rattle.sets.specs.Sets.{bit, union}
use Rattle.sets.proofs.SetsLaws.{bit-lt, single-lt, union-lt, union_left, union_right, union-either}
use Rattle.grammar.specs.Automaton.TestLaws.{by-test, true-false}
use Rattle.grammar.specs.Automaton.Members.{none_in, some-not-none, member, single-in, single-is}
use Rattle.grammar.specs.Data.Symbol.{Symbol, terminal, nonterminal, Rule, left_of, right_of, after}
use Rattle.grammar.specs.Automaton.Small.{Low, Small, low-after}
use Rattle.grammar.specs.Automaton.Fixpoint.{set_at}
use Rattle.grammar.specs.Automaton.LeastLaws.{Family, Within, none-family, none_within, Fits, least-family, least-closed, least-within}
use Rattle.grammar.specs.Automaton.First.{First, past}
use Rattle.grammar.specs.Automaton.FirstLaws.{Null, null_end, null-rule, Starts, starts_first, null-first}
use Rattle.grammar.specs.Automaton.FirstSets.{Sets, null, first}
use Rattle.grammar.specs.Automaton.FirstSetsLaws.{SetsRight, first-told}
use Rattle.grammar.specs.Automaton.Items.{Reaches}
use Rattle.grammar.specs.Automaton.ReachesLaws.{Strict, strict_once, strict_inside, strict_beyond, reaches-shape, strict-reaches, null-reaches}
use Rattle.grammar.specs.Automaton.ReachSets.{dead, reach_in, reach_rule, reach_sets, reach_with}

module _ (G : List Rule) where
  -- what is reached through the nonterminal
  abbrev Inside : ℕ → ℕ → Type 0
  Inside B a = Strict G (nonterminal B ∷ []) a

  inside-cons : {B a b c : ℕ} {β : List Symbol} → First G β b c → Inside B a → Strict G (nonterminal B ∷ β) a
  inside-cons f (strict_inside g p e s) = strict_inside f p e s
  inside-cons f (strict_beyond _ _ _ s) = elim s [ ]

  vanish-strict : {B a : ℕ} {β : List Symbol} → Null G (nonterminal B ∷ []) → Starts G β a → Strict G (nonterminal B ∷ β) a
  vanish-strict (null-rule p e n m) s = strict_beyond p e n s

module _ {G : List Rule} {F : Sets} (R : SetsRight G F) where
  -- ---- what can follow

  live-first : (β : List Symbol) → Low β → dead F β ≡ false → (c : ℕ) × First G β 0 c
  unfolding dead
  live-first β l e = go (null F β) refl
    where
      go : (t : Bool) → null F β ≡ t → (c : ℕ) × First G β 0 c
      go true n = (0, null-first G (R.told_null β n) 0)
      go false n =
          let (c, m) = member (first F β) (R.first_low β l) (eqb-false (first F β) 0 (rw (n, dead) at e)) in
          (c, starts_first G (R.told_starts β c m) 0)

  first_live : {β : List Symbol} {b c : ℕ} → Low β → First G β b c → dead F β ≡ false
  unfolding dead
  first_live {β} {b} {c} l f = go (null F β) refl
    where
      some : null F β ≡ false → bit (first F β) c ≡ true
      some n = ⊎_elim (λ s. s) (λ q. true-false q.1 n) (first-told R l f)

      go : (t : Bool) → null F β ≡ t → dead F β ≡ false
      go true n = rw (n, dead)
      go false n = rw (n, dead) (ne_eqb (first F β) 0 (some-not-none (first F β) c (some n)))

  -- ---- what is reached before a string ends

  by-reach : (reached : List ℕ) (B : ℕ) (β : List Symbol) (Q : ℕ → Type 0) → (dead F β ≡ true → Q 0)
      → (dead F β ≡ false → null F (nonterminal B ∷ []) ≡ true → Q (union (set_at reached B) (first F β)))
      → (dead F β ≡ false → null F (nonterminal B ∷ []) ≡ false → Q (set_at reached B))
      → Q (reach_in F reached (nonterminal B ∷ β))
  unfolding reach_in
  by-reach reached B β Q none more only =
      by-test (dead F β) 0 _ Q none
      (λ d. by-test (null F (nonterminal B ∷ [])) (union (set_at reached B) (first F β)) (set_at reached B) Q (more d) (only d))

  reach-lt : (reached : List ℕ) → Family 32 reached → (β : List Symbol) → Low β → reach_in F reached β < 2 ^ 32
  unfolding reach_in
  reach-lt reached f [] l = omega arith
  reach-lt reached f (terminal a ∷ β) l = single-lt a l.0
  reach-lt reached f (nonterminal B ∷ β) l =
      by-reach reached B β (λ x. x < 2 ^ 32) (λ _. omega arith) (λ _ _. union-lt _ _) (λ _ _. f.low B)

  strict_in : (reached : List ℕ) → Within (Inside G) reached → (β : List Symbol) → Low β → (a : ℕ) → bit (reach_in F reached β) a ≡ true → Strict G β a
  unfolding reach_in
  strict_in reached w [] l a e = none_in a e
  strict_in reached w (terminal c ∷ β) l a e = rw (single-is c a e) strict_once
  strict_in reached w (nonterminal B ∷ β) l a e =
      by-reach reached B β (λ x. bit x a ≡ true → Strict G (nonterminal B ∷ β) a) (λ _. none_in a)
      (λ d n u. ⊎_elim (λ q. inside-cons G (live-first β l.1 d).1 (w B a q))
      (λ q. vanish-strict G (R.told_null (nonterminal B ∷ []) n) (R.told_starts β a q))
      (union-either (set_at reached B) (first F β) a (bit-lt _ a (union-lt _ _) u) u))
      (λ d n u. inside-cons G (live-first β l.1 d).1 (w B a u)) e

  reach-own : {reached : List ℕ} → Family 32 reached → (B : ℕ) (β : List Symbol) (a : ℕ) → dead F β ≡ false → bit (set_at reached B) a ≡ true
      → bit (reach_in F reached (nonterminal B ∷ β)) a ≡ true
  reach-own {reached} f B β a d e =
      by-reach reached B β (λ x. bit x a ≡ true) (λ q. true-false q d)
      (λ _ _. union_left (set_at reached B) (first F β) a (bit-lt _ a (f.low B) e) e) (λ _ _. e)

  reach-rest : (reached : List ℕ) (B : ℕ) (β : List Symbol) (a : ℕ) → Low β → Null G (nonterminal B ∷ []) → Starts G β a
      → bit (reach_in F reached (nonterminal B ∷ β)) a ≡ true
  reach-rest reached B β a l n s =
      by-reach reached B β (λ x. bit x a ≡ true) (λ d. true-false d (first_live l (starts_first G s 0)))
      (λ _ _. union_right (set_at reached B) (first F β) a (bit-lt _ a (R.first_low β l) there) there)
      (λ _ m. true-false (R.null_told (nonterminal B ∷ []) n) m)
    where
      there : bit (first F β) a ≡ true
      there = R.starts_told β a l s

-- ---- the reached sets of a grammar

module _ {G : List Rule} {F : Sets} (H : Small G) (R : SetsRight G F) where
  reach-fits : Fits (reach_rule G F) (length G) (replicate 32 0)
  unfolding reach_rule
  reach-fits = record {
    few = omega arith;
    low = (none-family 32).low;
    target_low = H.left_low;
    gives_low = λ p l family f. reach-lt R family f (right_of G p) (H.right_low p l);
  }

  reached-family : Family 32 (reach_sets G F)
  unfolding reach_sets
  reached-family = least-family reach-fits

  reached-inside : Within (Inside G) (reach_sets G F)
  unfolding reach_sets reach_rule
  reached-inside =
      least-within reach-fits (Inside G) (none_within (Inside G) 32)
      (λ p l family f w a e. strict_inside {b = 0} past l refl (strict_in R family w (right_of G p) (H.right_low p l) a e))

  left-reached : (P a : ℕ) → P < length G → bit (reach_in F (reach_sets G F) (right_of G P)) a ≡ true → bit (set_at (reach_sets G F) (left_of G P)) a ≡ true
  unfolding reach_sets reach_rule
  left-reached P a p = least-closed reach-fits P a p

  strict-has : {β : List Symbol} {a : ℕ} → Low β → Strict G β a → bit (reach_in F (reach_sets G F) β) a ≡ true
  strict-has l (strict_once {a = a}) = unfold reach_in in single-in a
  strict-has l (strict_inside {P = P} {B = B} {a = a} {β = β} f p e s) =
      reach-own R reached-family B β a (first_live R l.1 f)
      (subst (λ (A : ℕ). bit (set_at (reach_sets G F) A) a ≡ true) e (left-reached P a p (strict-has (H.right_low P p) s)))
  strict-has l (strict_beyond {B = B} {a = a} {β = β} p e n s) = reach-rest R (reach_sets G F) B β a l.1 (null-rule p e n null_end) s

  -- ---- what items with the lookaheads of a set reach

  by-with : (β : List Symbol) (M : ℕ) (Q : ℕ → Type 0) → (null F β ≡ true → Q (union (reach_in F (reach_sets G F) β) M))
      → (null F β ≡ false → Q (reach_in F (reach_sets G F) β)) → Q (reach_with F (reach_sets G F) β M)
  unfolding reach_with
  by-with β M Q = by-test (null F β) (union (reach_in F (reach_sets G F) β) M) (reach_in F (reach_sets G F) β) Q

  pub reaches-with : (P D M a c : ℕ) → M < 2 ^ 32 → bit M c ≡ true → Reaches G a P D c → bit (reach_with F (reach_sets G F) (after G P D) M) a ≡ true
  reaches-with P D M a c m e r = by-with (after G P D) M (λ x. bit x a ≡ true) more only
    where
      before : ℕ
      before = reach_in F (reach_sets G F) (after G P D)

      small : before < 2 ^ 32
      small = reach-lt R (reach_sets G F) reached-family (after G P D) (low-after G H P D)

      more : null F (after G P D) ≡ true → bit (union before M) a ≡ true
      more n =
          ⊎_elim (λ s. let t = strict-has (low-after G H P D) s in union_left before M a (bit-lt before a small t) t)
          (λ q. rw q.0 (union_right before M c (bit-lt M c m e) e)) (reaches-shape G r)

      only : null F (after G P D) ≡ false → bit before a ≡ true
      only n = ⊎_elim (strict-has (low-after G H P D)) (λ q. true-false (R.null_told (after G P D) q.1) n) (reaches-shape G r)

  -- what the set holds is reached before the string ends, or the string may be empty and it is of M
  pub with-strict : (P D M a : ℕ) → bit (reach_with F (reach_sets G F) (after G P D) M) a ≡ true
      → Strict G (after G P D) a ⊎ (Null G (after G P D) × (bit M a ≡ true))
  with-strict P D M a =
      by-with (after G P D) M (λ x. bit x a ≡ true → Strict G (after G P D) a ⊎ (Null G (after G P D) × (bit M a ≡ true)))
      (λ n e. ⊎_elim (λ q. inl (strict q)) (λ q. inr (R.told_null (after G P D) n, q))
      (union-either (reach_in F (reach_sets G F) (after G P D)) M a (bit-lt _ a (union-lt _ _) e) e))
      (λ _ e. inl (strict e))
    where
      strict : bit (reach_in F (reach_sets G F) (after G P D)) a ≡ true → Strict G (after G P D) a
      strict = strict_in R (reach_sets G F) reached-inside (after G P D) (low-after G H P D) a

  -- so it is reached from some lookahead of M, if M has any
  pub with-reaches : (P D M a d : ℕ) → bit M d ≡ true → bit (reach_with F (reach_sets G F) (after G P D) M) a ≡ true
      → (c : ℕ) × (bit M c ≡ true) × Reaches G a P D c
  with-reaches P D M a d m e =
      ⊎_elim (λ s. (d, m, strict-reaches G s d P D refl)) (λ n. (a, n.1, null-reaches G n.0 a P D refl)) (with-strict P D M a e)
