-- Laws of a slot that takes a formula: an empty one keeps it, and what stands there is the same or another. Assumes nothing.
use Prim.Native.Nat.{ℕ, suc, ◌+◌, ◌<◌}
use Rattle.std.specs.Prelude.{◌≡◌, Bool, Some, None, List, length, set}
use Rattle.std.proofs.Math.Path.{refl, sym}
use Rattle.std.proofs.Common.{ap, ◌∙◌, add-one, arith, length-set, get_or-set_same, get_or-set_other}
use Rattle.std.proofs.Math.Option.{Option, none, some}
use Rattle.std.proofs.Math.Decide.{ℕ_discrete}
use Rattle.std.proofs.Math.ListN.{get_or}
use Rattle.sets.specs.Sets.{bit, with}
use Rattle.sets.proofs.SetsLaws.{with-self}
use Rattle.grammar.specs.Formulas.Formula.{Formula}
use Rattle.grammar.specs.Formulas.Slots.{Slots, slot_at}
use Rattle.grammar.specs.Formulas.FormulaCheck.{enter}
use Rattle.grammar.proofs.Formulas.FormulaCheckSteps.{enter-by}
use Rattle.formulas.specs.Meaning.{Means, one-formula, one_number}
use Rattle.formulas.specs.Formulas.{SlotIn, empty, full}
use Rattle.attributes.specs.Owned.{is_filled, KnownIn, with-other}
use Rattle.agreement.specs.declared.check.Progress.{Progress}
use Rattle.agreement.specs.SlotsHeld.{SlotsIn}
use Rattle.agreement.specs.Progress.{ProgressIn, Reached, going, apart}

module _ {table : List ℕ} {used : ℕ} where
  -- the word 0 is an empty slot's, any other a number's
  slot-none : {s : Option Formula} {w : ℕ} → SlotIn table used s w → w ≡ 0 → s ≡ none
  slot-none empty e = refl
  slot-none (full m) e = absurd (omega arith)

  empty-word : {s : Option Formula} {w : ℕ} → SlotIn table used s w → s ≡ none → w ≡ 0
  empty-word empty n = refl
  empty-word (full m) n = absurd (let z : ◌≡◌ {A = ℕ} 0 1 = cc in omega arith)

  slot-some : {s : Option Formula} {w : ℕ} → SlotIn table used s w → {f : Formula} → s ≡ some f → (i : ℕ) × (w ≡ suc i) × Means table used i f
  slot-some empty {f} e = absurd (let z : ◌≡◌ {A = ℕ} 0 1 = cc in omega arith)
  slot-some (full {i = i} {f = g} m) {f} e = let same : g ≡ f = cc in (i, refl, rw same at m)

module _ {slots : Slots} {done : List Bool} {words marks table heads nexts : List ℕ} {p : Progress}
    (R : ProgressIn slots done words marks table heads nexts p) {K : ℕ} (k : K < 16) {number : ℕ} {f : Formula}
    (m : Means table p.used number f) where
  here : SlotIn table p.used (slot_at slots K) (get_or words K 0)
  here = R.slots-in.slot_is K (omega (arith, R.words_long))

  slots-new : SlotsIn table p.used (set slots K (some f)) (set words K (number + 1))
  slots-new = record { slot_is = λ J h. by J h (ℕ_discrete J K) }
    where
      by : (J : ℕ) → J < length (set words K (number + 1)) → Dec (J ≡ K)
          → SlotIn table p.used (slot_at (set slots K (some f)) J) (get_or (set words K (number + 1)) J 0)
      by J h (yes e) =
          rw (
            e,
            get_or-set_same slots K (some f) none (omega (arith, R.long.0)),
            get_or-set_same words K (number + 1) 0 (omega (arith, R.words_long)),
            add-one number,
          )
          (full m)
      by J h (no n) =
          rw (get_or-set_other slots K J (some f) none n, get_or-set_other words K J (number + 1) 0 n)
          (R.slots-in.slot_is J (omega (arith, h, length-set words K (number + 1))))

  known-new : KnownIn (set slots K (some f)) (with p.known K)
  known-new = record { known_is = λ J h. by J h (ℕ_discrete J K) }
    where
      by : (J : ℕ) → J < 16 → Dec (J ≡ K) → bit (with p.known K) J ≡ is_filled (slot_at (set slots K (some f)) J)
      by J h (yes e) = rw (e, get_or-set_same slots K (some f) none (omega (arith, R.long.0))) (with-self p.known K (omega arith))
      by J h (no n) =
          with-other p.known K J (omega arith) n ∙ R.known_in.known_is J h ∙ ap is_filled (sym (get_or-set_other slots K J (some f) none n))

  pub enter-new : get_or words K 0 ≡ 0
      → Reached (set words K (number + 1)) marks table heads nexts (Some (record p { known = with p.known K })) (enter slots done K f)
  enter-new e =
      enter-by (Reached (set words K (number + 1)) marks table heads nexts (Some (record p { known = with p.known K }))) slots done K f
      (λ n. going (record {
        table_in = R.table_in;
        long = (length-set slots K (some f) ∙ R.long.0, R.long.1);
        words_long = length-set words K (number + 1) ∙ R.words_long;
        marks_long = R.marks_long;
        slots-in = slots-new;
        known_in = known-new;
        mark_is = R.mark_is;
        count_is = R.count_is;
        few = R.few;
        within = R.within;
      }))
      (λ o. absurd (differ o)) (λ g o n. absurd (differ o))
    where
      differ : {g : Formula} → slot_at slots K ≡ some g → ⊥
      differ o = let z = sym (slot-none here e) ∙ o in let z : ◌≡◌ {A = ℕ} 0 1 = cc in omega arith

  pub enter-old : get_or words K 0 ≡ number + 1 → Reached words marks table heads nexts (Some p) (enter slots done K f)
  enter-old e =
      enter-by (Reached words marks table heads nexts (Some p)) slots done K f
      (λ n. absurd (full-word n)) (λ o. going R)
      (λ g o n. absurd (let (i, w, same) = slot-some here o in let at : i ≡ number = omega arith in n (one-formula table p.used (rw at at same) m)))
    where
      full-word : slot_at slots K ≡ none → ⊥
      full-word n = let z = empty-word here n in omega arith

  pub enter-other : (get_or words K 0 ≡ 0 → ⊥) → (get_or words K 0 ≡ number + 1 → ⊥) → Reached words marks table heads nexts None (enter slots done K f)
  enter-other full-word other =
      enter-by (Reached words marks table heads nexts None) slots done K f
      (λ n. absurd (full-word (empty-word here n)))
      (λ o. absurd (let (i, w, same) = slot-some here o in let at : i ≡ number = one_number R.table_in same m in other (omega arith)))
      (λ g o n. apart)
