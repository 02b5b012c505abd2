-- Steps while a test holds, over any state whose size falls with each step, and the laws of such a loop.
-- Assumes nothing.
use Prim.Native.Nat.{ℕ, zero, suc, ◌≤◌, ◌<◌}
use Rattle.std.specs.Prelude.{◌≡◌, Bool}
use Rattle.std.proofs.Math.Path.{refl}
use Rattle.std.proofs.Common.{sym, ◌∙◌}
use Rattle.std.proofs.Math.Bool.{true, false}
use native.Mathlib.Omega.{arith}

module _ {S : Type 0} (more : S → Bool) (step : S → S) (size : S → ℕ) where
  unfoldable pub run : ℕ → S → S
  run zero s = s
  run (suc fuel) s = elim (more s) [ true ↦ run fuel (step s) | false ↦ s ]

  unfoldable pub repeat : S → S
  repeat s = run (size s) s

  run-stop : (fuel : ℕ) (s : S) → more s ≡ false → run fuel s ≡ s
  unfolding run
  run-stop zero s h = refl
  run-stop (suc fuel) s h = rw (h, run)

  run_more : (fuel : ℕ) (s : S) → more s ≡ true → run (suc fuel) s ≡ run fuel (step s)
  unfolding run
  run_more fuel s h = rw (h, run)

  pub repeat-stop : (s : S) → more s ≡ false → repeat s ≡ s
  unfolding repeat
  repeat-stop s h = run-stop (size s) s h

  module _ (falls : (s : S) → more s ≡ true → size (step s) < size s) where
    enough : (f g : ℕ) (s : S) → size s ≤ f → size s ≤ g → run f s ≡ run g s
    enough zero g s h k = go (more s) refl
      where
        go : (b : Bool) → more s ≡ b → run zero s ≡ run g s
        go false e = run-stop zero s e ∙ sym (run-stop g s e)
        go true e = absurd (let z : ⊥ = omega (arith, falls s e) in z)
    enough (suc f) zero s h k = go (more s) refl
      where
        go : (b : Bool) → more s ≡ b → run (suc f) s ≡ run zero s
        go false e = run-stop (suc f) s e ∙ sym (run-stop zero s e)
        go true e = absurd (let z : ⊥ = omega (arith, falls s e) in z)
    enough (suc f) (suc g) s h k = go (more s) refl (enough f g (step s))
      where
        go : (b : Bool) → more s ≡ b → (size (step s) ≤ f → size (step s) ≤ g → run f (step s) ≡ run g (step s)) → run (suc f) s ≡ run (suc g) s
        go false e ih = run-stop (suc f) s e ∙ sym (run-stop (suc g) s e)
        go true e ih = run_more f s e ∙ (ih (omega (arith, falls s e)) (omega (arith, falls s e)) ∙ sym (run_more g s e))

    first : (s : S) (n : ℕ) → size s ≡ n → more s ≡ true → run n s ≡ run (size (step s)) (step s)
    first s zero e h = absurd (let z : ⊥ = omega (arith, falls s h) in z)
    first s (suc n) e h = run_more n s h ∙ enough n (size (step s)) (step s) (omega (arith, falls s h)) (omega arith)

    pub repeat-more : (s : S) → more s ≡ true → repeat s ≡ repeat (step s)
    unfolding repeat
    repeat-more s h = first s (size s) refl h

    run-size : (f : ℕ) (s : S) → size (run f s) ≤ size s
    unfolding run
    run-size zero s = omega arith
    run-size (suc f) s = go (more s) refl (run-size f (step s))
      where
        go : (b : Bool) → more s ≡ b → size (run f (step s)) ≤ size (step s) → size (run (suc f) s) ≤ size s
        go true e ih = rw (e, run) (omega (arith, falls s e))
        go false e ih = rw (e, run) (omega arith)

    pub repeat-size : (s : S) → size (repeat s) ≤ size s
    unfolding repeat
    repeat-size s = run-size (size s) s

-- opens every definition of this module
unfoldable pub opens : Unit {0}
unfolding run repeat
opens = tt
