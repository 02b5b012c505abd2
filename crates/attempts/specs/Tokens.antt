-- The numbers of a message's tokens: pairs of a kind and a value.
-- Assumes nothing.
use Rattle.std.specs.Prelude.{ℕ, ◌+◌, ◌*◌, ◌/◌, ◌%◌, ◌<◌, ◌≤◌, ◌≡◌, Bool, true, false, length, get_or, drop}
use Rattle.std.proofs.Math.Path.{refl}
use Rattle.std.proofs.Common.{sym, ap, ◌∙◌, arith, length-drop}
use mathlib.Core.List.{List, [], ◌∷◌}
use Rattle.std.proofs.Math.Option.{Option, none, some}
use Rattle.text.proofs.RestLaws.{drop_more}
use Rattle.grammar.specs.Conditions.Decides.{one_to, one_to-decides, false_of}
use Rattle.grammar.specs.Evaluator.Tree.{Token}
use Rattle.grammar.specs.Engine.{tokens_of, kinds_in}

-- the kind of each pair is 1 to T
unfoldable pub kinds_right : ℕ → List ℕ → Bool
kinds_right T [] = true
kinds_right T (k ∷ []) = true
kinds_right T (k ∷ v ∷ ns) = elim (one_to T k) [ true ↦ kinds_right T ns | false ↦ false ]

-- the kinds of the tokens that the numbers are
pub kinds-right : (T : ℕ) (tokens : List ℕ) (ks : List Token) → tokens_of tokens ≡ some ks → kinds_right T tokens ≡ kinds_in T ks
unfolding kinds_right kinds_in tokens_of
kinds-right T [] ks e = let q : ks ≡ [] = cc in rw q
kinds-right T (k ∷ []) ks e = absurd (let z : ◌≡◌ {A = ℕ} 0 1 = cc in omega arith)
kinds-right T (k ∷ v ∷ ns) ks e = go (tokens_of ns) refl (kinds-right T ns)
  where
    go : (o : Option (List Token)) → tokens_of ns ≡ o → ((ls : List Token) → tokens_of ns ≡ some ls → kinds_right T ns ≡ kinds_in T ls)
        → kinds_right T (k ∷ v ∷ ns) ≡ kinds_in T ks
    go none q ih = absurd (let w : none ≡ some ks = rw (q, tokens_of) at e in let z : ◌≡◌ {A = ℕ} 0 1 = cc in omega arith)
    go (some ls) q ih =
        let w : some (record { kind = k; value = v } ∷ ls) ≡ some ks = rw (q, tokens_of) at e in
        let same : ks ≡ record { kind = k; value = v } ∷ ls = cc in
        rw same (ap (λ (t : Bool). elim (one_to T k) [ true ↦ t | false ↦ false ]) (ih ls q))

-- ---- how many

-- numbers of which one is left over are no tokens
pub tokens-odd : (tokens : List ℕ) → (length tokens % 2 ≡ 0 → ⊥) → tokens_of tokens ≡ none
unfolding tokens_of
tokens-odd [] h = absurd (h refl)
tokens-odd (k ∷ []) h = refl
tokens-odd (k ∷ v ∷ ns) h = rw (tokens-odd ns (λ e. h (omega (arith, e))), tokens_of)

-- others are, two numbers each
pub tokens-even : {C : Type 0} (tokens : List ℕ) → length tokens % 2 ≡ 0
    → ((ks : List Token) → tokens_of tokens ≡ some ks → length tokens ≡ 2 * length ks → C) → C
unfolding tokens_of
tokens-even [] h f = f [] refl refl
tokens-even (k ∷ []) h f = absurd (let z : ◌≡◌ {A = ℕ} 1 0 = h in omega arith)
tokens-even (k ∷ v ∷ ns) h f =
    tokens-even ns (omega (arith, h)) λ ks e l. f (record { kind = k; value = v } ∷ ks) (rw (e, tokens_of)) (omega (arith, l))

-- ---- the loop over the pairs

ne-one : (T : ℕ) {k : ℕ} → k ≡ 0 → one_to T k ≡ false
ne-one T {k} z = false_of (one_to-decides T k) (λ o. omega (arith, z, o.low))

above : {T k : ℕ} → T < k → one_to T k ≡ false
above {T} {k} h = false_of (one_to-decides T k) (λ o. omega (arith, h, o.high))

within : {T k : ℕ} → (k ≡ 0 → ⊥) → k ≤ T → one_to T k ≡ true
within {T} {k} n l = (one_to-decides T k).complete (record { low = omega arith; high = l })

module _ (T : ℕ) (tokens : List ℕ) (i : ℕ) where
  module _ (h : i < length tokens / 2) where
    pair : drop (2 * i) tokens ≡ get_or tokens (2 * i) 0 ∷ get_or tokens (2 * i + 1) 0 ∷ drop (2 * (i + 1)) tokens
    pair =
        let n : 2 * i + 1 + 1 ≡ 2 * (i + 1) = omega arith in
        rw (← n) (drop_more tokens (2 * i) (omega arith) ∙ ap (λ (ns : List ℕ). get_or tokens (2 * i) 0 ∷ ns) (drop_more tokens (2 * i + 1) (omega arith)))

    -- a kind that is right, or is not
    module _ (inv : kinds_right T (drop (2 * i) tokens) ≡ kinds_right T tokens) where
      next : {t : Bool} → one_to T (get_or tokens (2 * i) 0) ≡ t
          → elim t [ true ↦ kinds_right T (drop (2 * (i + 1)) tokens) | false ↦ false ] ≡ kinds_right T tokens
      unfolding kinds_right
      next {t} e = rw (← e) (sym (ap (kinds_right T) pair) ∙ inv)

      pub kinds-low : get_or tokens (2 * i) 0 ≡ 0 → false ≡ kinds_right T tokens
      kinds-low z = next (ne-one T z)

      pub kinds-high : T < get_or tokens (2 * i) 0 → false ≡ kinds_right T tokens
      kinds-high g = next (above g)

      pub kinds-turn : (get_or tokens (2 * i) 0 ≡ 0 → ⊥) → get_or tokens (2 * i) 0 ≤ T → kinds_right T (drop (2 * (i + 1)) tokens) ≡ kinds_right T tokens
      kinds-turn n l = next (within n l)

  few : (ns : List ℕ) → length ns ≤ 1 → kinds_right T ns ≡ true
  unfolding kinds_right
  few [] h = refl
  few (k ∷ []) h = refl
  few (k ∷ v ∷ ns) h = absurd (omega arith)

  pub kinds-end : length tokens / 2 ≤ i → kinds_right T (drop (2 * i) tokens) ≡ kinds_right T tokens → true ≡ kinds_right T tokens
  kinds-end h inv = sym (sym inv ∙ few (drop (2 * i) tokens) (simp length-drop (omega arith)))

-- opens every definition of this module
unfoldable pub opens : Unit {0}
unfolding kinds_right
opens = tt
