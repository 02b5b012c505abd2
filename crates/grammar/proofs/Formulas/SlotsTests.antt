-- What the tests over slots decide: a formula stands in a slot, a nonterminal is settled, every item gives what stands there.
-- Assumes nothing.
use Prim.Native.Nat.{ℕ, zero, suc, ◌<◌}
use Rattle.std.proofs.Common.{arith, ap, ◌∙◌}
use Rattle.std.proofs.Math.Decide.{ℕ_discrete}
use Rattle.std.proofs.Math.Path.{◌≡◌}
use Rattle.std.specs.Prelude.{refl, Bool, true, false, eqb}
use Rattle.std.proofs.Math.Option.{Option, none, some}
use mathlib.Core.List.{List, [], ◌∷◌}
use Rattle.grammar.specs.Conditions.Decides.{Decides, true-decides, false-decides, refutes, equivalent, eq-decides, then-decides}
use Rattle.grammar.specs.Conditions.DecidesSteps.{All, all_nil, all_cons}
use Rattle.grammar.specs.Data.Symbol.{Symbol, terminal, nonterminal, after}
use Rattle.grammar.specs.Data.Book.{Book, owner_at, inherited_owner}
use Rattle.grammar.specs.Formulas.Formula.{Formula, gives}
use Rattle.grammar.specs.Automaton.CoreItems.{Core, core}
use Rattle.grammar.specs.Formulas.Slots.{Slots, slot_at, own_at, settled_below, stands, attributes, agrees_below, agrees_item, agrees}
use Rattle.grammar.specs.Formulas.SameFormula.{same-formula}
use Rattle.grammar.specs.Formulas.SlotsFill.{Filled}

pub stands-decides : (x : Option Formula) (f : Formula) → Decides (stands x f) (x ≡ some f)
unfolding stands
stands-decides none f = false-decides λ e. let z : ◌≡◌ {A = ℕ} 0 1 = cc in omega arith
stands-decides (some g) f = equivalent (λ e. ap some e) (λ e. cc) (same-formula g f)

-- the attributes below n that A owns have Q
abbrev pub OwnedBelow : (ℕ → ℕ) → ℕ → ℕ → (ℕ → Type 0) → Type 0
OwnedBelow owner A n Q = (K : ℕ) → K < n → owner K ≡ A → Q K

-- one attribute more, tested if A owns it
below-decides : (owner : ℕ → ℕ) (A n : ℕ) (Q : ℕ → Type 0) {t u : Bool} → Decides t (OwnedBelow owner A n Q) → Decides u (Q n × OwnedBelow owner A n Q)
    → Decides (elim (eqb (owner n) A) [ true ↦ u | false ↦ t ]) (OwnedBelow owner A (suc n) Q)
below-decides owner A n Q {t} {u} below also = by (eq-decides (owner n) A)
  where
    step : (owner n ≡ A → Q n) → OwnedBelow owner A n Q → OwnedBelow owner A (suc n) Q
    step q h K l o = at-or-below (ℕ_discrete K n)
      where
        at-or-below : Dec (K ≡ n) → Q K
        at-or-below (yes e) = rw e (q (rw e at o))
        at-or-below (no d) = h K (omega arith) o

    by : {s : Bool} → Decides s (owner n ≡ A) → Decides (elim s [ true ↦ u | false ↦ t ]) (OwnedBelow owner A (suc n) Q)
    by {s = true} d = equivalent (λ h. step (λ o. h.0) h.1) (λ h. (h n (omega arith) (d.sound refl), λ K l. h K (omega arith))) also
    by {s = false} d = equivalent (step λ o. absurd (refutes d o)) (λ h K l. h K (omega arith)) below

pub settled_below-decides : (owners : List ℕ) (slots : Slots) (A n : ℕ)
    → Decides (settled_below owners slots A n) (OwnedBelow (owner_at owners) A n (λ K. Filled (slot_at slots K)))
unfolding settled_below
settled_below-decides owners slots A zero = true-decides λ K l. absurd (omega arith)
settled_below-decides owners slots A (suc n) =
    let below = settled_below-decides owners slots A n in
    below-decides (owner_at owners) A n (λ K. Filled (slot_at slots K)) below (by (slot_at slots n) below)
  where
    by : (x : Option Formula) {t : Bool} {B : Type 0} → Decides t B → Decides (elim x [ none ↦ false | some f ↦ t ]) (Filled x × B)
    by none d = false-decides λ h. let z : ◌≡◌ {A = ℕ} 0 1 = cc in omega arith
    by (some f) d = equivalent (λ h. ((f, refl), h)) (λ h. h.1) d

module _ (b : Book) (slots : Slots) where
  -- the item (P, D) gives the attribute K just what stands in its slot
  abbrev pub GivesStanding : ℕ → ℕ → ℕ → Type 0
  GivesStanding P D K = slot_at slots K ≡ some (gives b P D (own_at slots D) K)

  -- it does so for each attribute of its next nonterminal, where `rest` stands behind its dot
  abbrev pub Agrees : ℕ → ℕ → List Symbol → Type 0
  Agrees P D rest = (B : ℕ) (β : List Symbol) → rest ≡ nonterminal B ∷ β → OwnedBelow (inherited_owner b) B (attributes b) (GivesStanding P D)

  abbrev pub ItemAgrees : Core → Type 0
  ItemAgrees (core P D M) = Agrees P D (after b.rules P D)

  agrees_below-decides : (P D B n : ℕ) → Decides (agrees_below b slots P D B n) (OwnedBelow (inherited_owner b) B n (GivesStanding P D))
  unfolding agrees_below
  agrees_below-decides P D B zero = true-decides λ K l. absurd (omega arith)
  agrees_below-decides P D B (suc n) =
      let below = agrees_below-decides P D B n in
      below-decides (inherited_owner b) B n (GivesStanding P D) below (then-decides (stands-decides _ _) below)

  agrees_item-decides : (P D : ℕ) (rest : List Symbol) → Decides (agrees_item b slots P D rest) (Agrees P D rest)
  unfolding agrees_item
  agrees_item-decides P D [] = true-decides λ B β e. absurd (let z : ◌≡◌ {A = ℕ} 0 1 = cc in omega arith)
  agrees_item-decides P D (terminal a ∷ β) = true-decides λ B γ e. absurd (let z : ◌≡◌ {A = ℕ} 0 1 = cc in omega arith)
  agrees_item-decides P D (nonterminal B ∷ β) =
      equivalent (λ h C γ e K l o. let same : C ≡ B = cc in h K l (o ∙ same)) (λ h. h B β refl) (agrees_below-decides P D B (attributes b))

  pub agrees-decides : (items : List Core) → Decides (agrees b slots items) (All ItemAgrees items)
  unfolding agrees
  agrees-decides [] = all_nil
  agrees-decides (core P D M ∷ items) = all_cons (agrees_item-decides P D (after b.rules P D)) (agrees-decides items)
