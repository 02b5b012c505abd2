-- Items of one terminal and of all: if the items of all terminals have one formula for each attribute, so have those of each terminal. Assumes nothing.
use Rattle.std.specs.Prelude.{ℕ, zero, suc, ◌<◌, ◌≡◌, refl, Bool, true, false, List}
use Rattle.std.proofs.Common.{arith, sym, ◌∙◌, eqb-true, eq-eqb}
use Rattle.sets.specs.Sets.{bit, single, meets}
use Rattle.sets.proofs.SetsLaws.{bit-single, meets-holds, meets-true}
use Rattle.sets.proofs.Operations.{full, bit-full}
use Rattle.grammar.specs.Conditions.Decides.{all_below}
use Rattle.grammar.specs.Data.Book.{Book}
use Rattle.grammar.specs.Formulas.FormulaCheck.{check}
use Rattle.grammar.proofs.Formulas.FormulaCheckLaws.{check-part}
use Rattle.grammar.proofs.Formulas.FormulaCheckAll.{check-same}
use Rattle.attributes.specs.Checking.{member_of, member_in, CheckHeld}

pub meets-single : (s a : ℕ) → a < 32 → meets s (single a) ≡ bit s a
meets-single s a h = by (meets s (single a)) refl (bit s a) refl
  where
    by : (t : Bool) → meets s (single a) ≡ t → (u : Bool) → bit s a ≡ u → t ≡ u
    by true e true q = refl
    by true e false q =
        let c = meets-holds s (single a) e in
        let same : a ≡ c.number = eqb-true a c.number (sym (bit-single a c.number) ∙ c.right) in
        sym c.left ∙ rw same at q
    by false e true q = sym e ∙ meets-true s (single a) a h q (bit-single a a ∙ eq-eqb a a refl)
    by false e false q = refl

module _ (b : Book) (masks : List ℕ) where
  -- the check of one terminal's items
  pub check-single : (a : ℕ) → a < 32 → check b (member_in masks (single a)) ≡ check b (member_of masks a)
  check-single a h = check-same b (member_in masks (single a)) (member_of masks a) λ d l. meets-single _ a h

  -- all terminals
  pub check-whole : {definitions rules owned : List ℕ} → CheckHeld b definitions rules owned masks → check b (member_in masks full) ≡ true
      → (a : ℕ) → a < 32 → check b (member_of masks a) ≡ true
  check-whole H e a h =
      check-part b H.premises (member_in masks full) (member_of masks a) (λ P D m. meets-true _ full a h m (bit-full a h)) e

pub all-below : (f : ℕ → Bool) (n : ℕ) → ((i : ℕ) → i < n → f i ≡ true) → true ≡ all_below n f
unfolding all_below
all-below f zero each = refl
all-below f (suc n) each = sym (rw (all_below, sym (all-below f n (λ i l. each i (omega arith)))) (each n (omega arith)))
