-- Laws of the sets of `Sets`: what each holds, by `bit`; what the tests tell; and that a union can only grow a number.
-- Assumes nothing.
use Rattle.std.specs.Prelude.{ℕ, ◌/◌, ◌%◌, ◌^◌, ◌<◌, ◌≤◌, ◌≡◌, refl, Bool, true, false, not, ◌&&◌, ◌||◌, ◌⊎◌, eqb, ltb}
use Rattle.std.proofs.lemmas.Nat.Bits.{bit_at-pow_same, bit_at-pow_other}
use Rattle.std.proofs.lemmas.Bool.{eqb-false}
use Rattle.std.proofs.Common.{eqb-true, sym, ap, ◌∙◌, inl, inr, ⊎_elim, arith, le_antisymm, eq-or-lt_of_le, pow_pos, pow_mono, eq-eqb, ltb-true, ltb-false}
use Rattle.std.proofs.Math.Bool.{or-true}
use Rattle.std.proofs.Math.Pow.{pow-lt}
use Rattle.sets.specs.Sets.{bit, empty, single, union, with, subset, meets}
use Rattle.sets.specs.Bits.{bit_past, bits-le, collect-lt, bit-collect, every_holds, every_true, exists-holds, exists-true}

-- ---- what a set holds

pub bit-empty : (i : ℕ) → bit empty i ≡ false
unfolding empty
bit-empty i = bit_past 0 i (pow_pos i)

pub bit-single : (i j : ℕ) → bit (single i) j ≡ eqb i j
unfolding single bit
bit-single i j = go (eqb i j) refl
  where
    go : (t : Bool) → eqb i j ≡ t → eqb (2 ^ i / 2 ^ j % 2) 1 ≡ t
    go true e = rw (eqb-true i j e) (ap (λ (x : ℕ). eqb x 1) (bit_at-pow_same j))
    go false e = ap (λ (x : ℕ). eqb x 1) (bit_at-pow_other i j (λ q. eqb-false i j e (sym q)))

pub bit-union : (a b i : ℕ) → i < 32 → bit (union a b) i ≡ (bit a i || bit b i)
unfolding union
bit-union a b = bit-collect (λ i. bit a i || bit b i) 32

pub bit-with : (s i j : ℕ) → j < 32 → bit (with s i) j ≡ (bit s j || eqb i j)
unfolding with
bit-with s i j h = bit-union s (single i) j h ∙ ap (λ (t : Bool). bit s j || t) (bit-single i j)

-- a set holds only numbers below 32
pub bit-lt : (s i : ℕ) → s < 2 ^ 32 → bit s i ≡ true → i < 32
bit-lt s i l e = go (ltb i 32) refl
  where
    go : (t : Bool) → ltb i 32 ≡ t → i < 32
    go true q = ltb-true i 32 q
    go false q =
        let small : 2 ^ 32 ≤ 2 ^ i = pow_mono (ltb-false i 32 q) in
        let out : bit s i ≡ false = bit_past s i (omega arith) in
        absurd (let z : ◌≡◌ {A = ℕ} 0 1 = cc in omega arith)

-- ---- sets are numbers below 2 ^ 32

pub empty-lt : empty < 2 ^ 32
unfolding empty
empty-lt = pow_pos 32

pub single-lt : (i : ℕ) → i < 32 → single i < 2 ^ 32
unfolding single
single-lt i h = pow-lt h

pub union-lt : (a b : ℕ) → union a b < 2 ^ 32
unfolding union
union-lt a b = collect-lt (λ i. bit a i || bit b i) 32

pub with-lt : (s i : ℕ) → with s i < 2 ^ 32
unfolding with
with-lt s i = union-lt s (single i)

-- two sets that hold the same numbers are equal
pub same_set : (a b : ℕ) → a < 2 ^ 32 → b < 2 ^ 32 → ((i : ℕ) → i < 32 → bit a i ≡ bit b i) → a ≡ b
same_set a b la lb h =
    le_antisymm (bits-le 32 a b la (λ i p e. sym (h i p) ∙ e)) (bits-le 32 b a lb (λ i p e. h i p ∙ e))

-- ---- members of a union, and of a set with one number more

pub union_left : (a b i : ℕ) → i < 32 → bit a i ≡ true → bit (union a b) i ≡ true
union_left a b i h e = bit-union a b i h ∙ ap (λ (t : Bool). t || bit b i) e

pub union_right : (a b i : ℕ) → i < 32 → bit b i ≡ true → bit (union a b) i ≡ true
union_right a b i h e = bit-union a b i h ∙ ap (λ (t : Bool). bit a i || t) e ∙ or-true (bit a i)

either : (s t : Bool) → (s || t) ≡ true → (s ≡ true) ⊎ (t ≡ true)
either true t e = inl refl
either false t e = inr e

pub union-either : (a b i : ℕ) → i < 32 → bit (union a b) i ≡ true → (bit a i ≡ true) ⊎ (bit b i ≡ true)
union-either a b i h e = either (bit a i) (bit b i) (sym (bit-union a b i h) ∙ e)

pub with-keeps : (s i j : ℕ) → j < 32 → bit s j ≡ true → bit (with s i) j ≡ true
unfolding with
with-keeps s i = union_left s (single i)

pub with-self : (s i : ℕ) → i < 32 → bit (with s i) i ≡ true
unfolding with
with-self s i h = union_right s (single i) i h (bit-single i i ∙ eq-eqb i i refl)

-- ---- the test `subset`

implied : (s t : Bool) → (not s || t) ≡ true → s ≡ true → t ≡ true
implied true t e q = e
implied false t e q = cc

implies : (s t : Bool) → (s ≡ true → t ≡ true) → (not s || t) ≡ true
implies true t h = h refl
implies false t h = refl

pub subset-holds : (a b : ℕ) → subset a b ≡ true → (i : ℕ) → i < 32 → bit a i ≡ true → bit b i ≡ true
unfolding subset
subset-holds a b e i h = implied (bit a i) (bit b i) (every_holds (λ n. not (bit a n) || bit b n) 32 e i h)

pub subset-true : (a b : ℕ) → ((i : ℕ) → i < 32 → bit a i ≡ true → bit b i ≡ true) → subset a b ≡ true
unfolding subset
subset-true a b h = every_true (λ n. not (bit a n) || bit b n) 32 (λ i l. implies (bit a i) (bit b i) (h i l))

-- ---- the test `meets`

-- a number that both a and b hold
pub record Common (a b : ℕ) : Type 0 where
  pub number : ℕ
  pub below : number < 32
  pub left : bit a number ≡ true
  pub right : bit b number ≡ true

both_left : (s t : Bool) → (s && t) ≡ true → s ≡ true
both_left true t e = refl
both_left false t e = e

both_right : (s t : Bool) → (s && t) ≡ true → t ≡ true
both_right true t e = e
both_right false t e = cc

pub meets-holds : (a b : ℕ) → meets a b ≡ true → Common a b
unfolding meets
meets-holds a b e =
    let p = exists-holds (λ n. bit a n && bit b n) 32 e in
    record {
      number = p.number;
      below = p.below;
      left = both_left (bit a p.number) (bit b p.number) p.passes;
      right = both_right (bit a p.number) (bit b p.number) p.passes;
    }

pub meets-true : (a b i : ℕ) → i < 32 → bit a i ≡ true → bit b i ≡ true → meets a b ≡ true
unfolding meets
meets-true a b i h p q =
    exists-true (λ n. bit a n && bit b n) 32 i h (ap (λ (t : Bool). t && bit b i) p ∙ q)

pub meets-false : (a b : ℕ) → meets a b ≡ false → (i : ℕ) → i < 32 → bit a i ≡ true → bit b i ≡ true → ⊥
meets-false a b e i h p q =
    let m : meets a b ≡ true = meets-true a b i h p q in
    let z : ◌≡◌ {A = ℕ} 0 1 = cc in omega arith

-- ---- a union can only grow a number: the measure of a search for a fixpoint

pub union-grows : (a b : ℕ) → a < 2 ^ 32 → a ≤ union a b
union-grows a b l = bits-le 32 a (union a b) l (union_left a b)

pub union_more : (a b : ℕ) → a < 2 ^ 32 → (union a b ≡ a → ⊥) → a < union a b
union_more a b l h = ⊎_elim (λ e. absurd (h (sym e))) (λ m. m) (eq-or-lt_of_le (union-grows a b l))

pub subset-union : (a b : ℕ) → a < 2 ^ 32 → subset b a ≡ true → union a b ≡ a
subset-union a b l e =
    le_antisymm
    (bits-le 32 (union a b) a (union-lt a b) (λ i h p. ⊎_elim (λ q. q) (subset-holds b a e i h) (union-either a b i h p)))
    (union-grows a b l)
