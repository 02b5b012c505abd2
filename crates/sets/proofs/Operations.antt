-- The operations of `Sets` on numbers below 2 ^ 32 are the machine's: union is `|`, the numbers that a set does not hold are those of `!`, or of `^` with
-- all of them, and the two tests compare an `&`.
-- Assumes nothing.
use Rattle.std.specs.Prelude.{ℕ, zero, suc, ◌+◌, ◌-◌, ◌/◌, ◌%◌, ◌^◌, ◌<◌, min, max, ◌≡◌, Bool, true, false, not, ◌&&◌, ◌||◌, eqb}
use Rattle.std.proofs.Math.Path.{refl}
use Rattle.std.proofs.Common.{sym, ap, ◌∙◌, arith, eq-eqb, ne_eqb, eqb-true}
use Rattle.std.specs.Int.Bits.{bit_and, bit_or, bit_xor, and_lt, or_add_and}
use Rattle.std.proofs.lemmas.Nat.{or_lt, and_le_l, and_le_r}
use Rattle.std.specs.Int.{w32}
use Rattle.std.proofs.lemmas.Nat.Bits.{bit_at_and, bit_at_or, bit_at_xor, bit_at_not, bit_at_ones}
use Rattle.sets.specs.Sets.{bit, empty, union, subset, meets}
use Rattle.sets.proofs.SetsLaws.{bit-empty, bit-union, empty-lt, union-lt, same_set, subset-holds, subset-true, meets-holds, meets-false}

-- ---- the bits of `|` and `&`

-- what holds of 0 and of 1 holds of a binary digit
digit : (P : ℕ → Type 0) → P 0 → P 1 → (x : ℕ) → x < 2 → P x
digit P p q zero h = p
digit P p q (suc zero) h = q
digit P p q (suc (suc x)) h = absurd (omega arith)

max-or : (x y : ℕ) → x < 2 → y < 2 → eqb (max x y) 1 ≡ (eqb x 1 || eqb y 1)
max-or x y p q =
    digit (λ x. eqb (max x y) 1 ≡ (eqb x 1 || eqb y 1))
    (digit (λ y. eqb (max 0 y) 1 ≡ (eqb 0 1 || eqb y 1)) refl refl y q)
    (digit (λ y. eqb (max 1 y) 1 ≡ (eqb 1 1 || eqb y 1)) refl refl y q) x p

min-and : (x y : ℕ) → x < 2 → y < 2 → eqb (min x y) 1 ≡ (eqb x 1 && eqb y 1)
min-and x y p q =
    digit (λ x. eqb (min x y) 1 ≡ (eqb x 1 && eqb y 1))
    (digit (λ y. eqb (min 0 y) 1 ≡ (eqb 0 1 && eqb y 1)) refl refl y q)
    (digit (λ y. eqb (min 1 y) 1 ≡ (eqb 1 1 && eqb y 1)) refl refl y q) x p

pub bit-or : (a b i : ℕ) → bit (bit_or a b) i ≡ (bit a i || bit b i)
unfolding bit
bit-or a b i = ap (λ (n : ℕ). eqb n 1) (bit_at_or a b i) ∙ max-or (a / 2 ^ i % 2) (b / 2 ^ i % 2) (omega arith) (omega arith)

pub bit-and : (a b i : ℕ) → bit (bit_and a b) i ≡ (bit a i && bit b i)
unfolding bit
bit-and a b i = ap (λ (n : ℕ). eqb n 1) (bit_at_and a b i) ∙ min-and (a / 2 ^ i % 2) (b / 2 ^ i % 2) (omega arith) (omega arith)

-- ---- the bits of both are none only if those of each are

pub or-none : (a b : ℕ) → bit_or a b ≡ 0 → (a ≡ 0) × (b ≡ 0)
or-none a b e = (omega (arith, or_add_and a b, and_le_r a b), omega (arith, or_add_and a b, and_le_l a b))

-- ---- the operations

pub union-or : (a b : ℕ) → a < 2 ^ 32 → b < 2 ^ 32 → union a b ≡ bit_or a b
union-or a b la lb =
    same_set (union a b) (bit_or a b) (union-lt a b) (or_lt 32 a b la lb) (λ i h. bit-union a b i h ∙ sym (bit-or a b i))

-- ---- the numbers below 32 that a set does not hold

abbrev pub full : ℕ
full = 4294967295

pub bit-full : (i : ℕ) → i < 32 → bit full i ≡ true
unfolding bit
bit-full i h = ap (λ (n : ℕ). eqb n 1) (bit_at_ones 32 i h)

flip : (x : ℕ) → x < 2 → eqb (1 - x) 1 ≡ not (eqb x 1)
flip x h = digit (λ x. eqb (1 - x) 1 ≡ not (eqb x 1)) refl refl x h

pub bit-not : (s i : ℕ) → s < 2 ^ 32 → i < 32 → bit (full - s) i ≡ not (bit s i)
unfolding bit
bit-not s i l h = ap (λ (n : ℕ). eqb n 1) (bit_at_not w32 s i l h) ∙ flip (s / 2 ^ i % 2) (omega arith)

turn : (x : ℕ) → x < 2 → eqb ((x + 1) % 2) 1 ≡ not (eqb x 1)
turn x h = digit (λ x. eqb ((x + 1) % 2) 1 ≡ not (eqb x 1)) refl refl x h

pub bit-others : (s i : ℕ) → i < 32 → bit (bit_xor s full) i ≡ not (bit s i)
unfolding bit
bit-others s i h =
    ap (λ (n : ℕ). eqb n 1) (bit_at_xor s full i ∙ ap (λ (n : ℕ). (s / 2 ^ i % 2 + n) % 2) (bit_at_ones 32 i h)) ∙ turn (s / 2 ^ i % 2) (omega arith)

-- ---- the tests

pub same_truth : (s t : Bool) → (s ≡ true → t ≡ true) → (t ≡ true → s ≡ true) → s ≡ t
same_truth true t p q = sym (p refl)
same_truth false true p q = q refl
same_truth false false p q = refl

absorbed : (s t : Bool) → (s ≡ true → t ≡ true) → (s && t) ≡ s
absorbed true t h = h refl
absorbed false t h = refl

kept : (s t : Bool) → (s && t) ≡ s → s ≡ true → t ≡ true
kept true t e q = e
kept false t e q = cc

pub subset-and : (a b : ℕ) → a < 2 ^ 32 → b < 2 ^ 32 → subset a b ≡ eqb (bit_and a b) a
subset-and a b la lb =
    same_truth (subset a b) (eqb (bit_and a b) a)
    (λ e. eq-eqb (bit_and a b) a
    (same_set (bit_and a b) a (and_lt 32 a b la lb) la (λ i h. bit-and a b i ∙ absorbed (bit a i) (bit b i) (subset-holds a b e i h))))
    (λ e. subset-true a b
    (λ i h. kept (bit a i) (bit b i) (sym (bit-and a b i) ∙ ap (λ (x : ℕ). bit x i) (eqb-true (bit_and a b) a e))))

apart : (s t : Bool) → (s ≡ true → t ≡ true → ⊥) → (s && t) ≡ false
apart true true h = absurd (h refl refl)
apart true false h = refl
apart false t h = refl

pub meets-and : (a b : ℕ) → a < 2 ^ 32 → b < 2 ^ 32 → meets a b ≡ not (eqb (bit_and a b) 0)
unfolding empty
meets-and a b la lb = go (meets a b) refl
  where
    go : (t : Bool) → meets a b ≡ t → meets a b ≡ not (eqb (bit_and a b) 0)
    go true e =
        let m = meets-holds a b e in
        e ∙ ap not (sym (ne_eqb (bit_and a b) 0 (λ q.
        let l : bit a m.number ≡ true = m.left in
        let r : bit b m.number ≡ true = m.right in
        let f : bit (bit_and a b) m.number ≡ (bit a m.number && bit b m.number) = bit-and a b m.number in
        let g : bit 0 m.number ≡ false = bit-empty m.number in
        let z : ◌≡◌ {A = ℕ} 0 1 = cc in omega arith)))
    go false e =
        e ∙ ap not (sym (eq-eqb (bit_and a b) 0
        (same_set (bit_and a b) 0 (and_lt 32 a b la lb) empty-lt
        (λ i h. bit-and a b i ∙ apart (bit a i) (bit b i) (meets-false a b e i h) ∙ sym (bit-empty i)))))
