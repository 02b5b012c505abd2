-- Laws of `iterate`: where each step changes nothing or makes a bounded measure larger, enough fuel ends at a fixpoint, and more gives the same.
-- Assumes nothing.
use Prim.Native.Nat.{ℕ, zero, suc, ◌+◌, ◌<◌, ◌≤◌}
use Rattle.std.specs.Prelude.{◌≡◌, Bool, true, false, ◌⊎◌}
use Rattle.std.proofs.Math.Path.{refl, sym}
use Rattle.std.proofs.Common.{ap, ◌∙◌, ⊎_elim, arith}
use Rattle.grammar.specs.Automaton.TestLaws.{by-test, true-false}
use Rattle.grammar.specs.Automaton.Fixpoint.{iterate}

-- what a step must meet: `same` tells whether it changes anything, `ok` is kept, and a change makes the size larger, up to a bound
pub record Grows {S : Type 0} (same : S → S → Bool) (step : S → S) (ok : S → Type 0) (size : S → ℕ) (bound : ℕ) : Type 0 where
  pub same_still : (s : S) → ok s → same (step s) s ≡ true → step s ≡ s
  pub still_same : (s : S) → ok s → step s ≡ s → same (step s) s ≡ true
  pub keeps : (s : S) → ok s → ok (step s)
  pub grows : (s : S) → ok s → (step s ≡ s) ⊎ (size s < size (step s))
  pub below : (s : S) → ok s → size s ≤ bound

-- a turn of the iteration by its test
module _ {S : Type 0} (same : S → S → Bool) (step : S → S) (fuel : ℕ) (s : S) where
  ends : same (step s) s ≡ true → iterate same step (suc fuel) s ≡ s
  unfolding iterate
  ends q = rw (q, iterate)

  goes_on : same (step s) s ≡ false → iterate same step (suc fuel) s ≡ iterate same step fuel (step s)
  unfolding iterate
  goes_on q = rw (q, iterate)

  -- what holds of s if the step changes nothing, and of what the next turns make of the step's outcome, holds of what the turn makes
  by_turn : (P : S → Type 0) → (same (step s) s ≡ true → P s) → (same (step s) s ≡ false → P (iterate same step fuel (step s)))
      → P (iterate same step (suc fuel) s)
  unfolding iterate
  by_turn P = by-test (same (step s) s) s (iterate same step fuel (step s)) P

-- what the step keeps holds at the end
module _ {S : Type 0} (same : S → S → Bool) (step : S → S) (P : S → Type 0) (keeps : (s : S) → P s → P (step s)) where
  pub kept : (fuel : ℕ) (s : S) → P s → P (iterate same step fuel s)
  unfolding iterate
  kept zero s k = k
  kept (suc fuel) s k = by_turn same step fuel s P (λ _. k) (λ _. kept fuel (step s) (keeps s k))

module _ {S : Type 0} {same : S → S → Bool} {step : S → S} {ok : S → Type 0} {size : S → ℕ} {bound : ℕ} (G : Grows same step ok size bound) where
  -- a step that is not told to be still makes the size larger
  moved : (s : S) → ok s → same (step s) s ≡ false → size s < size (step s)
  moved s k q =
      ⊎_elim (λ e. true-false (G.still_same s k e) q) (λ l. l) (G.grows s k)

  -- at the bound nothing moves
  full : (s : S) → ok s → bound ≤ size s → step s ≡ s
  full s k h = ⊎_elim (λ e. e) (λ l. absurd (let z : ⊥ = omega (arith, G.below (step s) (G.keeps s k)) in z)) (G.grows s k)

  -- a fixpoint stays
  pub stays : (fuel : ℕ) (s : S) → ok s → step s ≡ s → iterate same step fuel s ≡ s
  unfolding iterate
  stays zero s k e = refl
  stays (suc fuel) s k e = ends same step fuel s (G.still_same s k e)

  -- the end is a fixpoint
  pub fixed : (fuel : ℕ) (s : S) → ok s → bound ≤ size s + fuel → step (iterate same step fuel s) ≡ iterate same step fuel s
  unfolding iterate
  fixed zero s k h = full s k (omega arith)
  fixed (suc fuel) s k h =
      by_turn same step fuel s (λ x. step x ≡ x) (G.same_still s k)
      (λ q. let l = moved s k q in fixed fuel (step s) (G.keeps s k) (omega arith))

  -- any two fuels that are enough give the same
  pub any_fuel : (f g : ℕ) (s : S) → ok s → bound ≤ size s + f → bound ≤ size s + g → iterate same step f s ≡ iterate same step g s
  unfolding iterate
  any_fuel zero g s k hf hg = sym (stays g s k (full s k (omega arith)))
  any_fuel (suc f) zero s k hf hg = stays (suc f) s k (full s k (omega arith))
  any_fuel (suc f) (suc g) s k hf hg =
      by_turn same step f s (λ x. x ≡ iterate same step (suc g) s) (λ q. sym (ends same step g s q))
      (λ q. let l = moved s k q in any_fuel f g (step s) (G.keeps s k) (omega arith) (omega arith) ∙ sym (goes_on same step g s q))

  -- one step more at the start
  pub again : (fuel : ℕ) (s : S) → ok s → bound ≤ size s + fuel → iterate same step fuel (step s) ≡ iterate same step fuel s
  again fuel s k h = go (same (step s) s) refl
    where
      go : (t : Bool) → same (step s) s ≡ t → iterate same step fuel (step s) ≡ iterate same step fuel s
      go true q = ap (iterate same step fuel) (G.same_still s k q)
      go false q = sym (goes_on same step fuel s q) ∙ any_fuel (suc fuel) fuel s k (omega arith) h
