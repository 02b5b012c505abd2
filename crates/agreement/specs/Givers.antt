-- Definitions that may differ from others: all but those that copy an attribute to itself at the front of their rule, which give what stands already.
-- Where no two of them give the same attribute to the items of a partial state, each attribute has one formula there. Assumes nothing.
use Rattle.std.specs.Prelude.{ℕ, zero, suc, ◌<◌, ◌≡◌, Bool, false, List, [], ◌∷◌, get_or, set, replicate}
use Rattle.std.proofs.Common.{arith, sym, ap, ◌∙◌, subst, get_or-set_other}
use Rattle.std.proofs.Math.Decide.{ℕ_discrete}
use Rattle.std.proofs.Math.Path.{refl}
use Rattle.std.proofs.Math.Bool.{true}
use Rattle.std.proofs.Math.Option.{none, some}
use Rattle.grammar.specs.Limits.{MAX_INHERITED}
use Rattle.grammar.specs.Automaton.TestLaws.{true-false}
use Rattle.grammar.specs.Data.Symbol.{left_of}
use Rattle.grammar.specs.Data.Term.{leaf, replace, Leaves, in_leaf}
use Rattle.grammar.specs.Data.Book.{own, InheritedDefinition, Book}
use Rattle.grammar.specs.Formulas.Formula.{Formula, becomes}
use Rattle.grammar.specs.Formulas.Slots.{Slots, slot_at, standing, own_at, ready, attributes}
use Rattle.grammar.specs.Formulas.SlotsFill.{Filled}
use Rattle.grammar.proofs.Formulas.SlotsTests.{settled_below-decides}
use Rattle.grammar.specs.Formulas.Passes.{Keeps, passes-keep}
use Rattle.grammar.specs.Formulas.FormulaCheck.{Progress, progress, split, dot_of, advance, fresh, unsplit, formula_of, definitions, line_at, visit, ended, check}
use Rattle.grammar.proofs.Formulas.FormulaCheckSteps.{enter-by, visit-by, due-decides}
use Rattle.grammar.specs.Formulas.DefinitionPremises.{LineRight, DefinitionPremises}

-- the definition gives an attribute of its rule's first symbol what the left side has of it
pub record Copies (line : InheritedDefinition) : Type 0 where
  pub in_front : dot_of line ≡ 0
  pub own_is : line.expression ≡ leaf (own line.attribute)

-- of the definitions at some items that are no copies, no two give the same attribute
abbrev pub GivenOnce : (b : Book) → (ℕ → ℕ → Type 0) → Type 0
GivenOnce b Item = (d e : ℕ) → d < definitions b → e < definitions b → Item (line_at b d).rule (dot_of (line_at b d))
    → Item (line_at b e).rule (dot_of (line_at b e))
    → (Copies (line_at b d) → ⊥) → (Copies (line_at b e) → ⊥) → (line_at b d).attribute ≡ (line_at b e).attribute
    → d ≡ e

-- What a copy gives

leaf-in : {A : Type 0} {R : A → Type 0} {a : A} → Leaves R (leaf a) → R a
leaf-in (in_leaf r) = r

-- one that does not wait finds its slot full
copy-filled : (b : Book) (slots : Slots) {line : InheritedDefinition} → LineRight b line → Copies line → ready b slots line.rule (dot_of line) ≡ true
    → Filled (slot_at slots line.attribute)
unfolding ready
copy-filled b slots {line} right copy r =
    let (there, owns) = leaf-in (subst (Leaves _) copy.own_is right.leaves_read) in
    (settled_below-decides b.inherited_owners slots (left_of b.rules line.rule) (attributes b)).sound
    (subst (λ D. ready b slots line.rule D ≡ true) copy.in_front r) line.attribute there owns

-- and gives what stands there
copy-same : (slots : Slots) {line : InheritedDefinition} → Copies line → {g : Formula} → slot_at slots line.attribute ≡ some g → formula_of slots line ≡ g
unfolding formula_of replace becomes own_at standing
copy-same slots {line} copy {g} e =
    ap (λ t. replace t (becomes (dot_of line) (own_at slots (dot_of line)))) copy.own_is
    ∙ ap (λ (D : ℕ). own_at slots D line.attribute) copy.in_front ∙ ap standing e

-- Definitions that are done, and slots

done-here : (done : List Bool) (d : ℕ) → get_or (set done d true) d true ≡ true
done-here [] d = refl
done-here (t ∷ done) zero = refl
done-here (t ∷ done) (suc d) = done-here done d

-- what is not done once another is, was not done, and is no other
undone : (done : List Bool) (d e : ℕ) → get_or (set done d true) e true ≡ false → (e ≡ d → ⊥) × (get_or done e true ≡ false)
undone done d e h =
    let other : e ≡ d → ⊥ = λ p. true-false (done-here done d) (rw p at h) in
    (other, sym (get_or-set_other done d e true true other) ∙ h)

-- a list of one value has no other
one_value : {A : Type 0} (a : A) (n i : ℕ) → get_or (replicate n a) i a ≡ a
one_value a zero i = refl
one_value a (suc n) zero = refl
one_value a (suc n) (suc i) = one_value a n i

-- The visits

module _ (b : Book) (member : ℕ → ℕ → Bool) (L : DefinitionPremises b) (once : GivenOnce b (λ P D. member P D ≡ true)) where
  -- what is to come finds its slot empty, if it is no copy
  abbrev Waiting : Progress → Type 0
  Waiting (progress slots done) = (d : ℕ) → d < definitions b → member (line_at b d).rule (dot_of (line_at b d)) ≡ true → (Copies (line_at b d) → ⊥)
      → get_or done d true ≡ false → slot_at slots (line_at b d).attribute ≡ none
  Waiting split = ⊥

  module _ (slots : Slots) (done : List Bool) (waiting : Waiting (progress slots done)) (d : ℕ) (l : d < definitions b)
      (m : member (line_at b d).rule (dot_of (line_at b d)) ≡ true) where
    abbrev slot : ℕ
    slot = (line_at b d).attribute

    abbrev given : Slots
    given = set slots slot (some (formula_of slots (line_at b d)))

    -- an empty slot takes the formula of the definition of place d, which is then no copy
    new-waiting : ready b slots (line_at b d).rule (dot_of (line_at b d)) ≡ true → slot_at slots slot ≡ none → Waiting (progress given (set done d true))
    new-waiting r empty e k i n u = by (ℕ_discrete (line_at b e).attribute slot)
      where
        fresh-line : Copies (line_at b d) → ⊥
        fresh-line copy =
            let (g, full) = copy-filled b slots (L.line_right d l) copy r in
            let same = sym empty ∙ full in
            let z : ◌≡◌ {A = ℕ} 0 1 = cc in omega arith

        by : Dec ((line_at b e).attribute ≡ slot) → slot_at given (line_at b e).attribute ≡ none
        by (yes p) = absurd ((undone done d e u).0 (once e d k l i m n fresh-line p))
        by (no a) =
            get_or-set_other slots slot (line_at b e).attribute (some (formula_of slots (line_at b d))) none a
            ∙ waiting e k i n (undone done d e u).1

    -- a slot that is full takes no other formula
    never_other : get_or done d true ≡ false → {g : Formula} → slot_at slots slot ≡ some g → (g ≡ formula_of slots (line_at b d) → ⊥) → ⊥
    never_other u full differ =
        let empty = waiting d l m (λ copy. differ (sym (copy-same slots copy full))) u in
        let same = sym empty ∙ full in
        let z : ◌≡◌ {A = ℕ} 0 1 = cc in omega arith

  visit-waiting : Keeps (visit b member) Waiting (definitions b)
  visit-waiting d l split w = absurd w
  visit-waiting d l (progress slots done) w = visit-by b member Waiting d slots done w λ u h.
      let (m, r) = (due-decides b member slots (line_at b d)).sound h in
      enter-by Waiting slots (set done d true) _ _ (λ empty. new-waiting slots done w d l m r empty)
      (λ full e k i n v. w e k i n (undone done d e v).1) (λ g full differ. never_other slots done w d l m u full differ)

  -- the check of a partial state where each attribute is given once
  pub check-once : check b member ≡ true
  unfolding check ended
  check-once =
      by (ended b member)
      (passes-keep (visit b member) Waiting advance (definitions b) visit-waiting fresh (λ d l m n u. one_value none MAX_INHERITED (line_at b d).attribute))
    where
      by : (s : Progress) → Waiting s → unsplit s ≡ true
      by (progress slots done) w = unfold unsplit in refl
      by split w = absurd w
