-- Words that have no bit in common, gathered one after the other with the words before them. Assumes nothing.
use Rattle.std.specs.Prelude.{ℕ, ◌+◌, ◌<◌, ◌≤◌, ◌≡◌, refl, Bool, true, false, ◌&&◌, ◌||◌, ltb}
use Rattle.std.proofs.Common.{arith, ap, ◌∙◌, ltb-true, ltb-false}
use Rattle.std.proofs.Math.Bool.{or-true}
use Rattle.std.specs.Int.Bits.{bit_and, bit_or}
use Rattle.sets.specs.Sets.{bit}
use Rattle.sets.specs.Bits.{below_suc}
use Rattle.sets.proofs.Operations.{bit-and, bit-or}
use Rattle.grammar.specs.Automaton.Members.{some-not-none}

-- no two of the words at the places from `first` on below n have a bit in common, nor has one of them with `base`; `bits` has those of all
pub record Apart (word : ℕ → ℕ) (base first n bits : ℕ) : Type 0 where
  pub base_held : (K : ℕ) → bit base K ≡ true → bit bits K ≡ true
  pub held : (i K : ℕ) → first ≤ i → i < n → bit (word i) K ≡ true → bit bits K ≡ true
  pub base_apart : (i K : ℕ) → first ≤ i → i < n → bit base K ≡ true → bit (word i) K ≡ true → ⊥
  pub apart : (i j K : ℕ) → first ≤ i → i < j → j < n → bit (word i) K ≡ true → bit (word j) K ≡ true → ⊥

-- Bits

no-common : (a b : ℕ) → bit_and a b ≡ 0 → (K : ℕ) → bit a K ≡ true → bit b K ≡ true → ⊥
no-common a b e K p q = some-not-none (bit_and a b) K (bit-and a b K ∙ ap (λ (t : Bool). t && bit b K) p ∙ q) e

-- the bits of one of two words are among those of both
pub or_left : (a b K : ℕ) → bit a K ≡ true → bit (bit_or a b) K ≡ true
or_left a b K e = bit-or a b K ∙ ap (λ (t : Bool). t || bit b K) e

pub or_right : (a b K : ℕ) → bit b K ≡ true → bit (bit_or a b) K ≡ true
or_right a b K e = bit-or a b K ∙ ap (λ (t : Bool). bit a K || t) e ∙ or-true (bit a K)

-- The words one after the other

module _ (word : ℕ → ℕ) {base first : ℕ} where
  pub apart_none : Apart word base first first base
  apart_none = record {
    base_held = λ K e. e;
    held = λ i K h l. absurd (omega arith);
    base_apart = λ i K h l. absurd (omega arith);
    apart = λ i j K h l m. absurd (omega arith);
  }

  -- one word more, which has nothing of the bits so far
  pub apart_more : {n bits : ℕ} → first ≤ n → Apart word base first n bits → bit_and bits (word n) ≡ 0 → Apart word base first (n + 1) (bit_or bits (word n))
  apart_more {n} {bits} low A e = record {
    base_held = λ K p. or_left bits (word n) K (A.base_held K p);
    held = λ i K h l.
        below_suc (λ i. bit (word i) K ≡ true → bit (bit_or bits (word n)) K ≡ true) n i (omega arith)
        (λ k p. or_left bits (word n) K (A.held i K h k p)) (or_right bits (word n) K);
    base_apart = λ i K h l.
        below_suc (λ i. bit base K ≡ true → bit (word i) K ≡ true → ⊥) n i (omega arith) (A.base_apart i K h)
        (λ p. no-common bits (word n) e K (A.base_held K p));
    apart = λ i j K h k l.
        below_suc (λ j. i < j → bit (word i) K ≡ true → bit (word j) K ≡ true → ⊥) n j (omega arith)
        (λ m less. A.apart i j K h less m) (λ less p. no-common bits (word n) e K (A.held i K h less p)) k;
  }

  pub apart-all : {n last bits : ℕ} → Apart word base first n bits → last ≤ n → Apart word base first last bits
  apart-all A h = record {
    base_held = A.base_held;
    held = λ i K k l. A.held i K k (omega arith);
    base_apart = λ i K k l. A.base_apart i K k (omega arith);
    apart = λ i j K k l m. A.apart i j K k l (omega arith);
  }

  -- words without bits are passed
  pub apart-past : {n last bits : ℕ} → Apart word base first n bits → ((i : ℕ) → n ≤ i → i < last → word i ≡ 0) → Apart word base first last bits
  apart-past {n} {last} {bits} A none = record {
    base_held = A.base_held;
    held = λ i K k l e. A.held i K k (inside i K l e) e;
    base_apart = λ i K k l p e. A.base_apart i K k (inside i K l e) p e;
    apart = λ i j K k l m p e. A.apart i j K k l (inside j K m e) p e;
  }
    where
      inside : (i K : ℕ) → i < last → bit (word i) K ≡ true → i < n
      inside i K l e = by (ltb i n) refl
        where
          by : (t : Bool) → ltb i n ≡ t → i < n
          by true p = ltb-true i n p
          by false p = absurd (some-not-none (word i) K e (none i (ltb-false i n p) l))
