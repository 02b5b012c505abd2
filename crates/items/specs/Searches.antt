-- The constraints of nullable, FIRST and the reached sets, for a grammar that an array holds: they fit the laws of passes, in either order.
-- Assumes nothing.
use Prim.Native.Nat.{ℕ, zero, suc, ◌^◌, ◌<◌}
use Rattle.std.specs.Prelude.{◌≡◌, refl, Bool, false, List, [], ◌∷◌, length}
use Rattle.std.proofs.Common.{sym, ⊎_elim}
use Rattle.std.proofs.Math.Bool.{true}
use native.Mathlib.Omega.{arith}
use Rattle.sets.specs.Sets.{bit, single, union}
use Rattle.sets.proofs.SetsLaws.{bit-lt, single-lt, union-lt, union_left, union_right, union-either}
use Rattle.grammar.specs.Automaton.TestLaws.{by-test, true-false}
use Rattle.grammar.specs.Automaton.Members.{none_in}
use Rattle.grammar.specs.Data.Symbol.{Symbol, terminal, nonterminal, Rule, left_of, right_of}
use Rattle.grammar.specs.Automaton.Small.{Low}
use Rattle.grammar.specs.Automaton.Fixpoint.{set_at}
use Rattle.grammar.specs.Automaton.LeastLaws.{Family, Fits}
use Rattle.grammar.specs.Automaton.FirstSets.{null_in, first_in, null_rule, first_rule, Sets, null, first}
use Rattle.grammar.specs.Automaton.ReachSets.{dead, reach_in, reach_rule}
use Rattle.items.specs.GrammarOf.{GrammarFits, grammar_of, grammar-size, grammar-small}
use Rattle.items.specs.Turned.{Inside, Rising}

-- ---- larger sets are given no less

null-more : (small large : ℕ) → ((B : ℕ) → bit small B ≡ true → bit large B ≡ true) → (β : List Symbol) → null_in small β ≡ true → null_in large β ≡ true
unfolding null_in
null-more small large w [] e = refl
null-more small large w (terminal a ∷ β) e = true-false refl (sym e)
null-more small large w (nonterminal B ∷ β) e = go (bit small B) refl (null-more small large w β)
  where
    go : (t : Bool) → bit small B ≡ t → (null_in small β ≡ true → null_in large β ≡ true) → null_in large (nonterminal B ∷ β) ≡ true
    go true q rest = rw (w B q, null_in) (rest (rw (q, null_in) at e))
    go false q rest = true-false refl (sym (rw (q, null_in) at e))

pub first_more : (nulls : ℕ) (small large : List ℕ) → Inside small large → (β : List Symbol) (a : ℕ)
    → bit (first_in nulls small β) a ≡ true → bit (first_in nulls large β) a ≡ true
unfolding first_in
first_more nulls small large w [] a e = e
first_more nulls small large w (terminal c ∷ β) a e = e
first_more nulls small large w (nonterminal B ∷ β) a e = go (bit nulls B) refl (first_more nulls small large w β a)
  where
    go : (t : Bool) → bit nulls B ≡ t → (bit (first_in nulls small β) a ≡ true → bit (first_in nulls large β) a ≡ true)
        → bit (first_in nulls large (nonterminal B ∷ β)) a ≡ true
    go true q rest =
        let u : bit (union (set_at small B) (first_in nulls small β)) a ≡ true = rw (q, first_in) at e in
        let l : a < 32 = bit-lt _ a (union-lt _ _) u in
        rw (q, first_in) (⊎_elim (λ s. union_left (set_at large B) _ a l (w B a s)) (λ s. union_right (set_at large B) _ a l (rest s)) (union-either _ _ a l u))
    go false q rest = rw (q, first_in) (w B a (rw (q, first_in) at e))

null-gives : (G : List Rule) (P : ℕ) (family : List ℕ) → null_in (set_at family 0) (right_of G P) ≡ true
    → (null_rule G P).gives family ≡ single (left_of G P)
unfolding null_rule
null-gives G P family n = rw (n, null_rule)

reach-more : (F : Sets) (small large : List ℕ) → Inside small large → (β : List Symbol) (a : ℕ)
    → bit (reach_in F small β) a ≡ true → bit (reach_in F large β) a ≡ true
unfolding reach_in
reach-more F small large w [] a e = e
reach-more F small large w (terminal c ∷ β) a e = e
reach-more F small large w (nonterminal B ∷ β) a e = by (dead F β) refl (null F (nonterminal B ∷ [])) refl
  where
    by : (t : Bool) → dead F β ≡ t → (s : Bool) → null F (nonterminal B ∷ []) ≡ s → bit (reach_in F large (nonterminal B ∷ β)) a ≡ true
    by true d s n = none_in a (rw (d, reach_in) at e)
    by false d true n =
        let u : bit (union (set_at small B) (first F β)) a ≡ true = rw (d, n, reach_in) at e in
        let l : a < 32 = bit-lt _ a (union-lt _ _) u in
        rw (d, n, reach_in) (⊎_elim (λ s. union_left (set_at large B) _ a l (w B a s)) (union_right (set_at large B) _ a l) (union-either _ _ a l u))
    by false d false n = rw (d, n, reach_in) (w B a (rw (d, n, reach_in) at e))

pub null-rising : (G : List Rule) (count : ℕ) → Rising (null_rule G) count
null-rising G count = record { rises = λ p l small large w. more p small large w }
  where
    more : (p : ℕ) (small large : List ℕ) → Inside small large → (a : ℕ) → bit ((null_rule G p).gives small) a ≡ true
        → bit ((null_rule G p).gives large) a ≡ true
    more p small large w a = unfold null_rule in
        by-test (null_in (set_at small 0) (right_of G p)) (single (left_of G p)) 0 (λ x. bit x a ≡ true → bit ((null_rule G p).gives large) a ≡ true)
        (λ n e. rw (null-gives G p large (null-more (set_at small 0) (set_at large 0) (w 0) (right_of G p) n)) e) (λ _ e. none_in a e)

pub first-rising : (G : List Rule) (nulls count : ℕ) → Rising (first_rule G nulls) count
unfolding first_rule
first-rising G nulls count = record { rises = λ p l small large w. first_more nulls small large w (right_of G p) }

pub reach-rising : (G : List Rule) (F : Sets) (count : ℕ) → Rising (reach_rule G F) count
unfolding reach_rule
reach-rising G F count = record { rises = λ p l small large w. reach-more F small large w (right_of G p) }

-- ---- sets of numbers below 32

pub first-lt : (nulls : ℕ) (firsts : List ℕ) → ((i : ℕ) → set_at firsts i < 2 ^ 32) → (β : List Symbol) → Low β → first_in nulls firsts β < 2 ^ 32
unfolding first_in
first-lt nulls firsts f [] l = omega arith
first-lt nulls firsts f (terminal a ∷ β) l = single-lt a l.0
first-lt nulls firsts f (nonterminal B ∷ β) l =
    by-test (bit nulls B) (union (set_at firsts B) (first_in nulls firsts β)) (set_at firsts B) (λ x. x < 2 ^ 32) (λ _. union-lt _ _) (λ _. f B)

reach-lt : (F : Sets) (reached : List ℕ) → ((i : ℕ) → set_at reached i < 2 ^ 32) → (β : List Symbol) → Low β → reach_in F reached β < 2 ^ 32
unfolding reach_in
reach-lt F reached f [] l = omega arith
reach-lt F reached f (terminal a ∷ β) l = single-lt a l.0
reach-lt F reached f (nonterminal B ∷ β) l =
    by-test (dead F β) 0 _ (λ x. x < 2 ^ 32) (λ _. omega arith)
    (λ _. by-test (null F (nonterminal B ∷ [])) (union (set_at reached B) (first F β)) (set_at reached B) (λ x. x < 2 ^ 32) (λ _. union-lt _ _) (λ _. f B))

module _ {words : List ℕ} {count : ℕ} (F : GrammarFits words count) where
  abbrev G : List Rule
  G = grammar_of words count

  inside : {P : ℕ} → P < count → P < length G
  inside h = rw (grammar-size words count) h

  left_lt : (P : ℕ) → P < count → left_of G P < 32
  left_lt P h = (grammar-small words count F).left_low P (inside h)

  low-right : (P : ℕ) → P < count → Low (right_of G P)
  low-right P h = (grammar-small words count F).right_low P (inside h)

  -- ---- the constraints fit

  pub null-fits : (nulls : ℕ) → nulls < 2 ^ 32 → Fits (null_rule G) count (nulls ∷ [])
  unfolding null_rule
  null-fits nulls h = record {
    few = omega arith;
    low = λ i. low i;
    target_low = λ p l. omega arith;
    gives_low = λ p l family f.
        by-test (null_in (set_at family 0) (right_of G p)) (single (left_of G p)) 0 (λ x. x < 2 ^ 32) (λ _. single-lt (left_of G p) (left_lt p l))
        (λ _. omega arith);
  }
    where
      low : (i : ℕ) → set_at (nulls ∷ []) i < 2 ^ 32
      low zero = h
      low (suc i) = omega arith

  pub first_fits : (nulls : ℕ) {firsts : List ℕ} → Family 32 firsts → Fits (first_rule G nulls) count firsts
  unfolding first_rule
  first_fits nulls S = record {
    few = omega (arith, S.long);
    low = S.low;
    target_low = λ p l. omega (arith, S.long, left_lt p l);
    gives_low = λ p l family f. first-lt nulls family f.low (right_of G p) (low-right p l);
  }

  pub reach-fits : (E : Sets) {reached : List ℕ} → Family 32 reached → Fits (reach_rule G E) count reached
  unfolding reach_rule
  reach-fits E S = record {
    few = omega (arith, S.long);
    low = S.low;
    target_low = λ p l. omega (arith, S.long, left_lt p l);
    gives_low = λ p l family f. reach-lt E family f.low (right_of G p) (low-right p l);
  }
