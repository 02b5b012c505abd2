-- How many elements of a list pass a test; where each has a number, by these numbers. Assumes nothing.
use Prim.Native.Nat.{ℕ, ◌+◌, ◌≤◌, ◌<◌}
use native.Mathlib.Omega.{arith}
use Rattle.std.specs.Prelude.{◌≡◌, Bool, ◌&&◌, length}
use Rattle.std.proofs.Math.Path.{refl, sym, ap, ap₂}
use Rattle.std.proofs.Common.{◌∙◌}
use Rattle.std.proofs.Math.Bool.{true, false}
use mathlib.Core.List.Memᴰ.{head as in_head}
use mathlib.Core.List.Memᴰ.{tail as in_Tail}
use mathlib.Core.List.{List, [], ◌∷◌, Memᴰ as Mem}
use Rattle.std.proofs.Math.Dec.{eqb}
use Rattle.grammar.specs.Conditions.Decides.{Decides, true-decides, false-decides, equivalent, any}
use Rattle.grammar.specs.Format.Ordered.{Ascends, ascends-[], ascends-∷}
use Rattle.grammar.specs.Format.OrderLaws.{ascends-above, before-differs}
use Rattle.conditions.specs.Sums.{sum, one, sum_same, sum-none, sum-add, sum-only, Tight}

module _ {A : Type 0} where
  -- how many elements pass the test
  unfoldable pub tally : (A → Bool) → List A → ℕ
  tally t [] = 0
  tally t (x ∷ xs) = one (t x) + tally t xs

  -- all pass, and none does
  pub tally-all : (xs : List A) → tally (λ x. true) xs ≡ length xs
  unfolding tally one
  tally-all [] = refl
  tally-all (x ∷ xs) = omega (arith, tally-all xs)

  pub tally-none : (t : A → Bool) (xs : List A) → ((x : A) → Mem x xs → t x ≡ false) → tally t xs ≡ 0
  unfolding tally one
  tally-none t [] h = refl
  tally-none t (x ∷ xs) h = rw (h x (in_head refl)) (omega (arith, tally-none t xs λ y m. h y (in_Tail m)))

  -- those that pass a test, by a number below n that each of them has
  pub tally-parts : (t : A → Bool) (s : ℕ → A → Bool) (n : ℕ) (xs : List A)
      → ((x : A) → Mem x xs → t x ≡ true → (k : ℕ) × (k < n) × ((i : ℕ) → s i x ≡ eqb k i)) → sum n (λ i. tally (λ x. t x && s i x) xs) ≡ tally t xs
  unfolding tally one
  tally-parts t s n [] h = sum-none (λ i. 0) n λ i l. refl
  tally-parts t s n (x ∷ xs) h =
      sum-add (λ i. one (t x && s i x)) (λ i. tally (λ x. t x && s i x) xs) n
      ∙ ap₂ ◌+◌ (go (t x) (h x (in_head refl))) (tally-parts t s n xs λ y m. h y (in_Tail m))
    where
      go : (u : Bool) → (u ≡ true → (k : ℕ) × (k < n) × ((i : ℕ) → s i x ≡ eqb k i)) → sum n (λ i. one (u && s i x)) ≡ one u
      go true f = let (k, l, e) = f refl in sum_same n (λ i m. ap one (e i)) ∙ sum-only n k l
      go false f = sum-none (λ i. 0) n λ i l. refl

  -- some element passes exactly if there is one to count
  any-tally : (t : A → Bool) (xs : List A) → Decides (any t xs) (1 ≤ tally t xs)
  unfolding any tally one
  any-tally t [] = false-decides λ l. omega arith
  any-tally t (x ∷ xs) = go (t x) (any-tally t xs)
    where
      go : (u : Bool) → Decides (any t xs) (1 ≤ tally t xs) → Decides (elim u [ true ↦ true | false ↦ any t xs ]) (1 ≤ one u + tally t xs)
      go true d = true-decides (omega arith)
      go false d = equivalent (λ l. omega arith) (λ l. omega arith) d

  -- where one at most may pass, and none unless it is due, some passing or none due tells whether as many pass as are due
  pub tally-tight : (t : A → Bool) (xs : List A) (due : Bool) → tally t xs ≤ 1 → (due ≡ false → tally t xs ≡ 0)
      → Tight (elim due [ true ↦ any t xs | false ↦ true ]) (one due) (tally t xs)
  unfolding one
  tally-tight t xs true l h = record { most = l; tells = equivalent (λ m. omega arith) (λ e. omega arith) (any-tally t xs) }
  tally-tight t xs false l h = record { most = omega (arith, h refl); tells = true-decides (sym (h refl)) }

  -- of elements that ascend strictly one at most has a key
  pub tally-key : {key : A → List ℕ} {last : List ℕ} (t : A → Bool) (k : List ℕ) (xs : List A) → Ascends key last xs → ((x : A) → t x ≡ true → key x ≡ k)
      → tally t xs ≤ 1
  unfolding tally one
  tally-key t k [] ascends-[] h = omega arith
  tally-key {key = key} {last = last} t k (x ∷ xs) (ascends-∷ b bs) h = go (t x) refl (tally-key {last = key x} t k xs bs h)
    where
      later : t x ≡ true → (y : A) → Mem y xs → (u : Bool) → t y ≡ u → u ≡ false
      later e y m true f = absurd (before-differs (ascends-above bs m) (h x e ∙ sym (h y f)))
      later e y m false f = refl

      go : (u : Bool) → t x ≡ u → tally t xs ≤ 1 → one u + tally t xs ≤ 1
      go true e l = let z : tally t xs ≡ 0 = tally-none t xs (λ y m. later e y m (t y) refl) in omega arith
      go false e l = omega arith

-- opens every definition of this module
unfoldable pub opens : Unit {0}
unfolding tally
opens = tt
