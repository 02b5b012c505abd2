-- Passes that follow others: where visits do after a function what other visits do before it, and the sizes are the same, the passes end at what the
-- function makes of the others' end. Assumes nothing.
use Prim.Native.Nat.{ℕ, zero, suc, ◌^◌}
use Rattle.std.specs.Prelude.{◌≡◌}
use Rattle.std.proofs.Math.Path.{refl, ap}
use Rattle.std.proofs.Common.{◌∙◌}
use Rattle.std.proofs.Math.Bool.{Bool, true, false}
use Rattle.std.proofs.Math.Dec.{eqb}
use Rattle.grammar.specs.Automaton.Fixpoint.{iterate}
use Rattle.grammar.specs.Formulas.Passes.{visits, passes}

module _ {S T : Type 0} (visit : ℕ → S → S) (other : ℕ → T → T) (f : S → T) (follows : (d : ℕ) (s : S) → other d (f s) ≡ f (visit d s)) where
  visits-follow : (n : ℕ) (s : S) → visits other n (f s) ≡ f (visits visit n s)
  unfolding visits
  visits-follow zero s = refl
  visits-follow (suc n) s = ap (other n) (visits-follow n s) ∙ follows n (visits visit n s)

  module _ (size : S → ℕ) (size' : T → ℕ) (sizes : (s : S) → size' (f s) ≡ size s) (n : ℕ) where
    iterate-follows : (fuel : ℕ) (s : S)
        → iterate (λ t u. eqb (size' t) (size' u)) (visits other n) fuel (f s) ≡ f (iterate (λ t u. eqb (size t) (size u)) (visits visit n) fuel s)
    unfolding iterate
    iterate-follows zero s = refl
    iterate-follows (suc fuel) s =
        ap (λ u. picked (eqb (size' u) (size' (f s))) u) (visits-follow n s)
        ∙ ap (λ k. picked (eqb k (size' (f s))) (f (visits visit n s))) (sizes (visits visit n s))
        ∙ ap (λ k. picked (eqb (size (visits visit n s)) k) (f (visits visit n s))) (sizes s)
        ∙ by (eqb (size (visits visit n s)) (size s)) (iterate-follows fuel (visits visit n s))
      where
        picked : Bool → T → T
        picked t u = elim t [ true ↦ f s | false ↦ iterate (λ t u. eqb (size' t) (size' u)) (visits other n) fuel u ]

        by : (t : Bool)
            → iterate (λ t u. eqb (size' t) (size' u)) (visits other n) fuel (f (visits visit n s))
            ≡ f (iterate (λ t u. eqb (size t) (size u)) (visits visit n) fuel (visits visit n s))
            → picked t (f (visits visit n s))
            ≡ f (elim t [ true ↦ s | false ↦ iterate (λ t u. eqb (size t) (size u)) (visits visit n) fuel (visits visit n s) ])
        by true next = refl
        by false next = next

    pub passes-follow : (s : S) → passes other size' n (f s) ≡ f (passes visit size n s)
    unfolding passes
    passes-follow s = iterate-follows (2 ^ 40) s
