-- Sums over the numbers below a bound, and how to tell whether a sum of bounded numbers is as large as it can be.
-- Assumes nothing.
use Prim.Native.Nat.{ℕ, zero, suc, ◌+◌, ◌*◌, ◌≤◌, ◌<◌, zero-le}
use Rattle.std.proofs.Common.{arith, add-one, ap, ap₂, eq-eqb, ne_eqb}
use Rattle.std.proofs.Math.Decide.{ℕ_discrete}
use Rattle.std.specs.Prelude.{◌≡◌, refl, Bool, true, false, eqb}
use Rattle.grammar.specs.Conditions.Decides.{Decides, true-decides, equivalent, then-decides, all_below}

-- the sum of f at the numbers below n
unfoldable pub sum : ℕ → (ℕ → ℕ) → ℕ
sum zero f = 0
sum (suc n) f = sum n f + f n

-- 1 where a test holds
unfoldable pub one : Bool → ℕ
one true = 1
one false = 0

-- that is at most 1
pub one-most : (t : Bool) → one t ≤ 1
unfolding one
one-most true = omega arith
one-most false = omega arith

-- sums of the same numbers
pub sum_same : {f g : ℕ → ℕ} (n : ℕ) → ((i : ℕ) → i < n → f i ≡ g i) → sum n f ≡ sum n g
unfolding sum
sum_same zero h = refl
sum_same (suc n) h = ap₂ ◌+◌ (sum_same n λ i l. h i (omega arith)) (h n (omega arith))

-- sums of nothing
pub sum-none : (f : ℕ → ℕ) (n : ℕ) → ((i : ℕ) → i < n → f i ≡ 0) → sum n f ≡ 0
unfolding sum
sum-none f zero h = refl
sum-none f (suc n) h = ap₂ ◌+◌ (sum-none f n λ i l. h i (omega arith)) (h n (omega arith))

-- sums of sums
pub sum-add : (f g : ℕ → ℕ) (n : ℕ) → sum n (λ i. f i + g i) ≡ sum n f + sum n g
unfolding sum
sum-add f g zero = refl
sum-add f g (suc n) = omega (arith, sum-add f g n)

-- one of the numbers alone
pub sum-only : (n k : ℕ) → k < n → sum n (λ i. one (eqb k i)) ≡ 1
unfolding sum one
sum-only zero k l = absurd (omega arith)
sum-only (suc n) k l = go (sum-only n k) (ℕ_discrete k n)
  where
    go : (k < n → sum n (λ i. one (eqb k i)) ≡ 1) → Dec (k ≡ n) → sum n (λ i. one (eqb k i)) + one (eqb k n) ≡ 1
    go further (yes e) = ap₂ ◌+◌ (sum-none (λ i. one (eqb k i)) n λ i m. ap one (ne_eqb k i λ q. omega arith)) (ap one (eq-eqb k n e))
    go further (no e) = ap₂ ◌+◌ (further (omega arith)) (ap one (ne_eqb k n e))

-- each at most m, together at most n times as much
pub sum-most : (m : ℕ) (f : ℕ → ℕ) (n : ℕ) → ((i : ℕ) → i < n → f i ≤ m) → sum n f ≤ m * n
unfolding sum
sum-most m f zero h = omega arith
sum-most m f (suc n) h = omega (arith, sum-most m f n (λ i l. h i (omega arith)), h n (omega arith))

-- A loop that has added f at the numbers below i of n

pub record Summing (f : ℕ → ℕ) (n i s : ℕ) : Type 0 where
  pub within : i ≤ n
  pub so_far : s ≡ sum i f

-- it starts, takes one more number, and ends
pub summing_start : {f : ℕ → ℕ} {n : ℕ} → Summing f n 0 0
unfolding sum
summing_start = record { within = zero-le; so_far = refl }

module _ {f : ℕ → ℕ} {n i s : ℕ} (h : Summing f n i s) where
  pub summing-turn : {x : ℕ} → i < n → x ≡ f i → Summing f n (i + 1) (s + x)
  unfolding sum
  summing-turn l e = record { within = omega arith; so_far = rw (add-one i) (ap₂ ◌+◌ h.so_far e) }

  pub summing-end : n ≤ i → s ≡ sum n f
  summing-end l = let e : i ≡ n = omega (arith, h.within) in rw e at h.so_far

  -- the sum so far where each number is at most m
  pub summing-low : (m : ℕ) → ((k : ℕ) → k < n → f k ≤ m) → s ≤ m * i
  summing-low m l = rw h.so_far (sum-most m f i λ k o. l k (omega (arith, h.within)))

-- f is at most g, and the test tells whether it is as much
pub record Tight (t : Bool) (g f : ℕ) : Type 0 where
  pub most : f ≤ g
  pub tells : Decides t (g ≡ f)

-- a sum is as much as it can be only if each of its numbers is
pub below-tight : {t : ℕ → Bool} {g f : ℕ → ℕ} (n : ℕ) → ((i : ℕ) → i < n → Tight (t i) (g i) (f i)) → Tight (all_below n t) (sum n g) (sum n f)
unfolding sum all_below
below-tight zero h = record { most = omega arith; tells = true-decides refl }
below-tight {t} {g} {f} (suc n) h =
    let p : Tight (all_below n t) (sum n g) (sum n f) = below-tight n λ i l. h i (omega arith) in
    let q : Tight (t n) (g n) (f n) = h n (omega arith) in
    record {
      most = omega arith;
      tells = equivalent {A = (sum n g ≡ sum n f) × (g n ≡ f n)} (λ e. omega arith) (λ e. (omega arith, omega arith)) (then-decides p.tells q.tells);
    }

-- opens every definition of this module
unfoldable pub opens : Unit {0}
unfolding sum one
opens = tt
