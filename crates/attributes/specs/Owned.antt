-- The inherited attributes that each nonterminal owns, as bit sets: whether a left side is settled is then a subset test (`Slots` of the grammar).
-- Assumes nothing.
use Prim.Native.Nat.{ℕ, zero, suc, ◌+◌, ◌<◌, ◌≤◌}
use Rattle.std.specs.Prelude.{◌≡◌, ◌⊎◌, Bool, ◌||◌, List, eqb, length, get_or, set, replicate}
use Rattle.std.proofs.Math.Path.{refl}
use Rattle.std.proofs.Common.{sym, ap, ◌∙◌, inl, inr, add-one, length-set, get_or-set_same, get_or-set_other}
use Rattle.std.proofs.Math.Bool.{true, false, or-false}
use Rattle.std.proofs.Math.Option.{Option, none, some}
use native.Mathlib.Omega.{arith}
use Rattle.std.proofs.Math.Decide.{ℕ_discrete}
use Rattle.std.proofs.lemmas.List.{length-replicate, get_or-replicate}
use borrow.Author.Tests.{eq-eqb, ne_eqb, eqb-true, eqb-false}
use Rattle.sets.specs.Sets.{bit, empty, with, subset}
use Rattle.sets.proofs.SetsLaws.{bit-empty, bit-with, with-keeps, with-self, subset-holds, subset-true}
use Rattle.grammar.specs.Conditions.Decides.{decides-same}
use Rattle.grammar.specs.Automaton.TestLaws.{true-false}
use Rattle.grammar.specs.Data.Book.{owner_at}
use Rattle.grammar.specs.Formulas.Formula.{Formula}
use Rattle.grammar.specs.Formulas.Slots.{Slots, slot_at, settled_below}
use Rattle.grammar.specs.Formulas.SlotsFill.{Filled}
use Rattle.grammar.proofs.Formulas.SlotsTests.{settled_below-decides}

-- the attributes below a number that A owns
unfoldable pub owned_below : List ℕ → ℕ → ℕ → ℕ
owned_below owners A zero = 0
owned_below owners A (suc K) = elim (eqb (owner_at owners K) A) [ true ↦ with (owned_below owners A K) K | false ↦ owned_below owners A K ]

-- the sets of all nonterminals
pub record OwnedIn (owners : List ℕ) (n : ℕ) (sets : List ℕ) : Type 0 where
  pub long : length sets ≡ 32
  pub set_is : (A : ℕ) → A < 32 → get_or sets A 0 ≡ owned_below owners A n

-- the set of the slots that have a formula
abbrev pub is_filled : Option Formula → Bool
is_filled none = false
is_filled (some f) = true

pub record KnownIn (slots : Slots) (known : ℕ) : Type 0 where
  pub known_is : (K : ℕ) → K < 16 → bit known K ≡ is_filled (slot_at slots K)

-- one attribute more changes no other
pub with-other : (s K J : ℕ) → J < 32 → (J ≡ K → ⊥) → bit (with s K) J ≡ bit s J
with-other s K J h n = bit-with s K J h ∙ ap (λ (t : Bool). bit s J || t) (ne_eqb K J (λ e. n (sym e))) ∙ or-false (bit s J)

-- opens every definition of this module
unfoldable pub opens : Unit {0}
unfolding owned_below
opens = tt

-- The loop

module _ (owners : List ℕ) (A : ℕ) where
  owned-is : (K : ℕ) → owner_at owners K ≡ A → owned_below owners A (K + 1) ≡ with (owned_below owners A K) K
  unfolding owned_below
  owned-is K e = rw (add-one K, eq-eqb (owner_at owners K) A e, owned_below)

  owned-not : (K : ℕ) → (owner_at owners K ≡ A → ⊥) → owned_below owners A (K + 1) ≡ owned_below owners A K
  unfolding owned_below
  owned-not K n = rw (add-one K, ne_eqb (owner_at owners K) A n, owned_below)

pub owned-start : {owners sets : List ℕ} → sets ≡ replicate 32 0 → OwnedIn owners 0 sets
unfolding owned_below
owned-start e = record {
  long = ap (length {A = ℕ}) e ∙ length-replicate {A = ℕ} 32 0;
  set_is = λ A l. ap (λ (s : List ℕ). get_or s A 0) e ∙ get_or-replicate {A = ℕ} 32 A 0 0 l;
}

pub owned-turn : {owners : List ℕ} {i : ℕ} {sets : List ℕ} → OwnedIn owners i sets → (A : ℕ) → owner_at owners i ≡ A → A < 32
    → OwnedIn owners (i + 1) (set sets A (with (get_or sets A 0) i))
owned-turn {owners} {i} {sets} O A e h = record { long = length-set sets A (with (get_or sets A 0) i) ∙ O.long; set_is = λ B l. by B l (eqb B A) refl }
  where
    by : (B : ℕ) → B < 32 → (t : Bool) → eqb B A ≡ t → get_or (set sets A (with (get_or sets A 0) i)) B 0 ≡ owned_below owners B (i + 1)
    by B l true q =
        let s : B ≡ A = eqb-true B A q in
        rw s (get_or-set_same sets A (with (get_or sets A 0) i) 0 (omega (arith, O.long)) ∙ ap (λ (x : ℕ). with x i) (O.set_is A h)
        ∙ sym (owned-is owners A i e))
    by B l false q =
        let s : B ≡ A → ⊥ = eqb-false B A q in
        get_or-set_other sets A B (with (get_or sets A 0) i) 0 s ∙ O.set_is B l ∙ sym (owned-not owners B i (λ f. s (sym f ∙ e)))

-- there are such sets
pub owned-some : (owners : List ℕ) (n : ℕ) → ((K : ℕ) → K < n → owner_at owners K < 32) → (sets : List ℕ) × OwnedIn owners n sets
owned-some owners zero low = (replicate 32 0, owned-start refl)
owned-some owners (suc n) low =
    let (sets, O) = owned-some owners n (λ K l. low K (omega arith)) in
    (_, rw (add-one n) at (owned-turn O (owner_at owners n) refl (low n (omega arith))))

-- What the sets have

either : (s t : Bool) → (s || t) ≡ true → (s ≡ true) ⊎ (t ≡ true)
either true t e = inl refl
either false t e = inr e

module _ (owners : List ℕ) (A : ℕ) where
  owned-there : (n K : ℕ) → n ≤ 32 → K < n → owner_at owners K ≡ A → bit (owned_below owners A n) K ≡ true
  unfolding owned_below
  owned-there zero K m l e = absurd (omega arith)
  owned-there (suc n) K m l e = by (ℕ_discrete K n) (owned-there n K)
    where
      keeps : (t : Bool) → bit (owned_below owners A n) K ≡ true
          → bit (elim t [ true ↦ with (owned_below owners A n) n | false ↦ owned_below owners A n ]) K ≡ true
      keeps true h = with-keeps (owned_below owners A n) n K (omega arith) h
      keeps false h = h

      by : Dec (K ≡ n) → (n ≤ 32 → K < n → owner_at owners K ≡ A → bit (owned_below owners A n) K ≡ true) → bit (owned_below owners A (suc n)) K ≡ true
      by (yes p) ih =
          let here : owner_at owners n ≡ A = rw p at e in
          rw (p, owned_below, eq-eqb (owner_at owners n) A here) (with-self (owned_below owners A n) n (omega arith))
      by (no q) ih = keeps (eqb (owner_at owners n) A) (ih (omega arith) (omega arith) e)

  owned-holds : (n K : ℕ) → n ≤ 32 → K < 32 → bit (owned_below owners A n) K ≡ true → (K < n) × (owner_at owners K ≡ A)
  unfolding owned_below empty
  owned-holds zero K m l h = absurd (true-false h (bit-empty K))
  owned-holds (suc n) K m l h = by (eqb (owner_at owners n) A) refl h (owned-holds n K)
    where
      more : (n ≤ 32 → K < 32 → bit (owned_below owners A n) K ≡ true → (K < n) × (owner_at owners K ≡ A)) → bit (owned_below owners A n) K ≡ true
          → (K < suc n) × (owner_at owners K ≡ A)
      more ih h = let (b, e) = ih (omega arith) l h in (omega arith, e)

      by : (t : Bool) → eqb (owner_at owners n) A ≡ t → bit (elim t [ true ↦ with (owned_below owners A n) n | false ↦ owned_below owners A n ]) K ≡ true
          → (n ≤ 32 → K < 32 → bit (owned_below owners A n) K ≡ true → (K < n) × (owner_at owners K ≡ A)) → (K < suc n) × (owner_at owners K ≡ A)
      by false q h ih = more ih h
      by true q h ih = of (either (bit (owned_below owners A n) K) (eqb n K) (sym (bit-with (owned_below owners A n) n K l) ∙ h))
        where
          of : (bit (owned_below owners A n) K ≡ true) ⊎ (eqb n K ≡ true) → (K < suc n) × (owner_at owners K ≡ A)
          of (inl t) = more ih t
          of (inr t) = let s : n ≡ K = eqb-true n K t in (omega arith, rw s at (eqb-true (owner_at owners n) A q))

filled_is : (x : Option Formula) → is_filled x ≡ true → Filled x
filled_is none e = absurd (let z : ◌≡◌ {A = ℕ} 0 1 = cc in omega arith)
filled_is (some f) e = (f, refl)

is-filled : (x : Option Formula) → Filled x → is_filled x ≡ true
is-filled x (f, e) = rw e

-- a left side is settled if what it owns is known
pub settled_is : (owners : List ℕ) {slots : Slots} {known : ℕ} → KnownIn slots known → (A n : ℕ) → n ≤ 16
    → subset (owned_below owners A n) known ≡ settled_below owners slots A n
settled_is owners {slots} {known} known_in A n m =
    decides-same (record {
      sound = λ h K l e. filled_is (slot_at slots K) (sym (known_in.known_is K (omega arith))
          ∙ subset-holds (owned_below owners A n) known h K (omega arith) (owned-there owners A n K (omega arith) l e));
      complete = λ h. subset-true (owned_below owners A n) known λ K l t.
          let (b, e) = owned-holds owners A n K (omega arith) l t in
          known_in.known_is K (omega arith) ∙ is-filled (slot_at slots K) (h K b e);
    }) (settled_below-decides owners slots A n)
