-- Laws of `bit`, and of what `Sets` says of the numbers below k: `collect`, `every`, `exists`.
-- Assumes nothing.
use Prim.Native.Nat.{ℕ, zero, suc, ◌+◌, ◌*◌, ◌/◌, ◌%◌, ◌^◌, ◌<◌, ◌≤◌}
use Rattle.std.proofs.Math.Path.{◌≡◌, refl}
use Rattle.std.proofs.Common.{sym, ap, ◌∙◌, subst, ⊎_elim, div-one, eq-or-lt_of_le, le_of_suc-le-suc, eqb-true}
use Rattle.std.proofs.lemmas.Nat.Bits.{bit_at-suc, bit_at_cat_low}
use Rattle.std.specs.Prelude.{Bool, eqb}
use Rattle.std.proofs.Math.Bool.{true, false}
use native.Mathlib.Omega.{arith}
use Rattle.std.proofs.Math.Nat.{pow-suc, div-eq_of_lt}
use Rattle.std.proofs.Math.Pow.{high}
use Rattle.sets.specs.Sets.{bit, collect, every, exists}

-- ---- bits

pub bit-first : (s : ℕ) → bit s 0 ≡ eqb (s % 2) 1
unfolding bit
bit-first s = ap (λ (x : ℕ). eqb (x % 2) 1) (div-one s)

pub bit-half : (s i : ℕ) → bit s (suc i) ≡ bit (s / 2) i
unfolding bit
bit-half s i = ap (λ (x : ℕ). eqb x 1) (bit_at-suc s i)

pub bit_past : (s i : ℕ) → s < 2 ^ i → bit s i ≡ false
unfolding bit
bit_past s i h = ap (λ (x : ℕ). eqb (x % 2) 1) (div-eq_of_lt h)

-- a power of two in front of a smaller number: its own bit, and those below it
pub bit-top : (s k : ℕ) → s < 2 ^ k → bit (2 ^ k + s) k ≡ true
unfolding bit
bit-top s k h =
    let e : 1 * 2 ^ k + s ≡ 2 ^ k + s = omega arith in
    ap (λ (x : ℕ). eqb (x % 2) 1) (subst (λ (x : ℕ). x / 2 ^ k ≡ 1) e (high 1 k h))

pub bit-under : (i k s : ℕ) → i < k → bit (2 ^ k + s) i ≡ bit s i
unfolding bit
bit-under i k s h =
    let e : 1 * 2 ^ k + s ≡ 2 ^ k + s = omega arith in
    ap (λ (x : ℕ). eqb x 1) (rw e at (bit_at_cat_low 1 k s i h))

-- ---- the order of numbers by their bits

digit-le : (x y : ℕ) → x < 2 → (eqb x 1 ≡ true → eqb y 1 ≡ true) → x ≤ y
digit-le zero y l h = omega arith
digit-le (suc zero) y l h = omega (arith, eqb-true y 1 (h refl))
digit-le (suc (suc x)) y l h = absurd (omega arith)

-- a number below 2 ^ k whose bits all are bits of b is at most b
pub bits-le : (k a b : ℕ) → a < 2 ^ k → ((i : ℕ) → i < k → bit a i ≡ true → bit b i ≡ true) → a ≤ b
bits-le zero a b l h = omega arith
bits-le (suc k) a b l h =
    let low : a % 2 ≤ b % 2 =
    digit-le (a % 2) (b % 2) (omega arith) (λ e. sym (bit-first b) ∙ h 0 (omega arith) (bit-first a ∙ e)) in
    let rest : a / 2 ≤ b / 2 =
    bits-le k (a / 2) (b / 2) (omega (arith, pow-suc 2 k)) (λ i p e. sym (bit-half b i) ∙ h (suc i) (omega arith) (bit-half a i ∙ e)) in
    omega arith

-- ---- the numbers below k

-- below the next number: below this one, or this one
pub below_suc : (P : ℕ → Type 0) (k i : ℕ) → i < suc k → (i < k → P i) → P k → P i
below_suc P k i h less last = ⊎_elim (λ e. subst P (sym e) last) less (eq-or-lt_of_le (le_of_suc-le-suc h))

module _ (test : ℕ → Bool) where
  collect-in : (k : ℕ) → test k ≡ true → collect (suc k) test ≡ 2 ^ k + collect k test
  unfolding collect
  collect-in k e = rw (e, collect)

  collect-out : (k : ℕ) → test k ≡ false → collect (suc k) test ≡ collect k test
  unfolding collect
  collect-out k e = rw (e, collect)

  pub collect-lt : (k : ℕ) → collect k test < 2 ^ k
  collect-lt zero = unfold collect in omega arith
  collect-lt (suc k) = go (test k) refl (collect-lt k)
    where
      go : (t : Bool) → test k ≡ t → collect k test < 2 ^ k → collect (suc k) test < 2 ^ suc k
      go true e l = omega (arith, collect-in k e, pow-suc 2 k)
      go false e l = omega (arith, collect-out k e, pow-suc 2 k)

  pub bit-collect : (k i : ℕ) → i < k → bit (collect k test) i ≡ test i
  bit-collect zero i h = absurd (omega arith)
  bit-collect (suc k) i h = go (test k) refl (bit-collect k i)
    where
      small : collect k test < 2 ^ k
      small = collect-lt k

      go : (t : Bool) → test k ≡ t → (i < k → bit (collect k test) i ≡ test i) → bit (collect (suc k) test) i ≡ test i
      go true e f =
          rw (collect-in k e)
          (below_suc (λ (n : ℕ). bit (2 ^ k + collect k test) n ≡ test n) k i h (λ l. bit-under i k (collect k test) l ∙ f l)
          (bit-top (collect k test) k small ∙ sym e))
      go false e f =
          rw (collect-out k e)
          (below_suc (λ (n : ℕ). bit (collect k test) n ≡ test n) k i h f (bit_past (collect k test) k small ∙ sym e))

  pub every_holds : (k : ℕ) → every k test ≡ true → (i : ℕ) → i < k → test i ≡ true
  unfolding every
  every_holds zero e i h = absurd (omega arith)
  every_holds (suc k) e i h = go (test k) refl (λ q. every_holds k q i)
    where
      go : (t : Bool) → test k ≡ t → (every k test ≡ true → i < k → test i ≡ true) → test i ≡ true
      go true q f = below_suc (λ (n : ℕ). test n ≡ true) k i h (f (rw (q, every) at e)) q
      go false q f = cc (rw (q, every) at e)

  pub every_true : (k : ℕ) → ((i : ℕ) → i < k → test i ≡ true) → every k test ≡ true
  unfolding every
  every_true zero h = refl
  every_true (suc k) h = rw (h k (omega arith), every) (every_true k (λ i l. h i (omega arith)))

  -- a number below k that passes the test
  pub record Passing (k : ℕ) : Type 0 where
    pub number : ℕ
    pub below : number < k
    pub passes : test number ≡ true

  pub exists-holds : (k : ℕ) → exists k test ≡ true → Passing k
  unfolding exists
  exists-holds zero e = absurd (let z : ◌≡◌ {A = ℕ} 0 1 = cc in omega arith)
  exists-holds (suc k) e = go (test k) refl (exists-holds k)
    where
      go : (t : Bool) → test k ≡ t → (exists k test ≡ true → Passing k) → Passing (suc k)
      go true q f = record { number = k; below = omega arith; passes = q }
      go false q f = let p = f (rw (q, exists) at e) in record { number = p.number; below = omega arith; passes = p.passes }

  pub exists-true : (k i : ℕ) → i < k → test i ≡ true → exists k test ≡ true
  unfolding exists
  exists-true zero i h e = absurd (omega arith)
  exists-true (suc k) i h e = go (test k) refl (λ l. exists-true k i l e)
    where
      go : (t : Bool) → test k ≡ t → (i < k → exists k test ≡ true) → exists (suc k) test ≡ true
      go true q f = rw (q, exists)
      go false q f =
          rw (q, exists)
          (⊎_elim (λ n. cc (ap test n)) f (eq-or-lt_of_le (le_of_suc-le-suc h)))
