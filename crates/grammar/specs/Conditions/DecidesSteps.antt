-- Tests of all, or of some, of a list's elements decide what they say, one element at a time: for tests with clauses of their own.
-- Assumes nothing.
use Rattle.std.specs.Prelude.{ℕ, suc, ◌<◌, ◌≡◌, refl, Bool, true, false, eqb}
use Rattle.std.proofs.Common.{arith, eqb-true}
use mathlib.Core.List.Memᴰ.{head as in_head}
use mathlib.Core.List.Memᴰ.{not-nil as not-in-nil}
use mathlib.Core.List.Memᴰ.{tail as in_Tail}
use mathlib.Core.List.{List, [], ◌∷◌, Memᴰ as Mem}
use Rattle.std.proofs.lemmas.Bool.{eqb-false}
use Rattle.grammar.specs.Conditions.Decides.{Decides, true-decides, false-decides, refutes, equivalent, then-decides}

-- every element of the list has the property
abbrev pub All : {A : Type 0} → (A → Type 0) → List A → Type 0
All {A} P l = (x : A) → Mem x l → P x

-- some element of the list has the property
abbrev pub Some : {A : Type 0} → (A → Type 0) → List A → Type 0
Some {A} P l = (x : A) × Mem x l × P x

module _ {A : Type 0} {P : A → Type 0} where
  pub all_nil : Decides true (All P [])
  all_nil = true-decides λ x m. absurd (not-in-nil m)

  pub all_cons : {s t : Bool} {x : A} {l : List A} → Decides s (P x) → Decides t (All P l) → Decides (elim s [ true ↦ t | false ↦ false ]) (All P (x ∷ l))
  all_cons {x = x} {l = l} p q = equivalent join (λ h. (h x (in_head refl), λ y m. h y (in_Tail m))) (then-decides p q)
    where
      join : (P x × All P l) → All P (x ∷ l)
      join h y (in_head e) = rw e h.0
      join h y (in_Tail m) = h.1 y m

  pub some-nil : Decides false (Some P [])
  some-nil = false-decides λ h. not-in-nil h.1

  pub some-cons : {s t : Bool} {x : A} {l : List A} → Decides s (P x) → Decides t (Some P l) → Decides (elim s [ true ↦ true | false ↦ t ]) (Some P (x ∷ l))
  some-cons {s = true} {x = x} p q = true-decides (x, in_head refl, p.sound refl)
  some-cons {s = false} {x = x} {l = l} p q = equivalent (λ h. (h.0, in_Tail h.1, h.2)) (λ h. further h.0 h.1 h.2) q
    where
      further : (y : A) → Mem y (x ∷ l) → P y → Some P l
      further y (in_head e) h = absurd (refutes p (rw e at h))
      further y (in_Tail m) h = (y, m, h)

module _ {P : ℕ → Type 0} where
  -- the numbers below n, the last first
  pub below-zero : Decides true ((i : ℕ) → i < 0 → P i)
  below-zero = true-decides λ i h. absurd (omega arith)

  pub below_suc : {s t : Bool} {n : ℕ} → Decides s (P n) → Decides t ((i : ℕ) → i < n → P i)
      → Decides (elim s [ true ↦ t | false ↦ false ]) ((i : ℕ) → i < suc n → P i)
  below_suc {n = n} p q = equivalent join (λ h. (h n (omega arith), λ i l. h i (omega arith))) (then-decides p q)
    where
      join : (P n × ((i : ℕ) → i < n → P i)) → (i : ℕ) → i < suc n → P i
      join h i l = go (eqb i n) refl
        where
          go : (s : Bool) → eqb i n ≡ s → P i
          go true e = rw (eqb-true i n e) h.0
          go false e = let d : i ≡ n → ⊥ = eqb-false i n e in h.1 i (omega arith)
