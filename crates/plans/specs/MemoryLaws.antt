-- Laws of the memory of plans over a book in arrays: a plan that is known, one that has no lines, and one that is worked out into a slot. Assumes nothing.
use Rattle.std.specs.Prelude.{ℕ, ◌+◌, ◌*◌, ◌-◌, ◌<◌, ◌≤◌, ◌≡◌, Bool, List, [], length, get_or, set}
use Rattle.std.proofs.Common.{arith, ◌∙◌, length-set, get_or-set_same, get_or-set_other}
use Rattle.grammar.specs.Limits.{MAX_INHERITED}
use Rattle.grammar.specs.Data.Book.{Book}
use Rattle.attributes.specs.Checking.{CheckHeld}
use Rattle.attributes.specs.Marks.{MarksRoom}
use Rattle.attributes.specs.FormulasHeld.{held-check}
use Rattle.plans.specs.Planning.{plan}
use Rattle.plans.specs.PlanningLaws.{plan-short}
use Rattle.plans.specs.PlanRows.{PlanRow, Elsewhere}
use Rattle.plans.specs.PlanRowsLaws.{elsewhere-then, elsewhere-wider, elsewhere-set}
use Rattle.plans.specs.Plans.{plan_of, PlanIn, last_slot, PlansIn, PlanTold, PlansHeld}
use Rattle.plans.specs.PlansLaws.{plans-beside, last-stays, noted_here, plans-noted, plans-empty}

-- a plan has few lines
pub row-short : (b : Book) (member : ℕ → ℕ → Bool) {row : List ℕ} {from n : ℕ} → PlanRow (plan b member) row from n → n ≤ MAX_INHERITED
row-short b member R = omega (arith, R.count_is, plan-short b member)

-- a row of lines in a slot, after which their number is stored
pub slot-filled : (slot n : ℕ) {lists new : List ℕ} → Elsewhere (17 * slot + 1) (17 * slot + 1 + MAX_INHERITED) lists new
    → Elsewhere (17 * slot) (17 * slot + 17) lists (set new (17 * slot) n)
slot-filled slot n {new = new} E =
    elsewhere-then (elsewhere-wider (omega arith) (omega arith) E) (elsewhere-set _ _ (17 * slot) new n (omega arith) (omega arith))

-- a row is a plan's
pub plan-filled : {lines : List ℕ} (slot : ℕ) {new : List ℕ} {n : ℕ} → 17 * slot < length new → PlanRow lines new (17 * slot + 1) n
    → PlanIn lines (set new (17 * slot) n) slot
plan-filled slot {new} {n} there R = record {
  count_is = get_or-set_same new (17 * slot) n 0 there ∙ R.count_is;
  line_is = λ i h. get_or-set_other new (17 * slot) (17 * slot + 1 + i) n 0 (λ e. absurd (omega arith)) ∙ R.line_is i h;
}

module _ {b : Book} {rules definitions : List ℕ} {lines : ℕ} {owned kernels bounds closures nullables reaches places : List ℕ}
    (H : PlansHeld b rules definitions lines owned kernels bounds closures nullables reaches places) where
  -- for the plan of a partial state; the places are as long as the sets of items would be
  pub plans-check : CheckHeld b definitions rules owned places
  plans-check = held-check H.formulas_held H.owned_in (omega (arith, H.places_in.long))

  pub plans-room : MarksRoom b.rules nullables reaches nullables
  plans-room =
      let R = H.formulas_held.marks-held.rests_in in
      record { nullables_long = R.suffixes_in.nullables_long; reaches_long = R.reaches_in.long; masks_long = R.suffixes_in.nullables_long }

module _ {b : Book} {S a : ℕ} (low : a < 32) {slots lists : List ℕ} (M : PlansIn b slots lists) (s : S < b.states) where
  -- the plan is known
  pub told-known : {slot : ℕ} → get_or slots (32 * S + a) 0 ≡ slot + 1 → PlanTold b slots lists S a slot
  told-known {slot} k =
      let N = M.noted S a slot s low k in
      record { plans_in = M; slot_low = omega (arith, N.in_use, M.last_low, M.lists_long); plan_in = N.plan_in }

  -- it has no lines
  pub told-empty : plan_of b S a ≡ [] → PlanTold b (set slots (32 * S + a) 1) lists S a 0
  told-empty empty =
      let M' = plans-empty M s low empty in
      let here : get_or (set slots (32 * S + a) 1) (32 * S + a) 0 ≡ 1 = get_or-set_same slots (32 * S + a) 1 0 (omega (arith, M.slots_long)) in
      record { plans_in = M'; slot_low = omega (arith, M.last_low, M.lists_long); plan_in = (M'.noted S a 0 s low here).plan_in }

  -- it is worked out into the next slot, which is the spare one, or is noted
  module _ {new : List ℕ} {slot : ℕ} (next : slot ≡ last_slot lists + 1) (P : PlanIn (plan_of b S a) new slot)
      (E : Elsewhere (17 * slot) (17 * slot + 17) lists new) where
    pub told-spare : PlanTold b slots new S a slot
    told-spare =
        let few : 17 * slot + 17 < length lists = omega (arith, next, M.last_low, M.lists_long) in
        record { plans_in = plans-beside M (omega (arith, next)) few E; slot_low = omega (arith, few, E.long); plan_in = P }

    pub told-new : (17 * slot + 17 ≡ length lists - 1 → ⊥) → PlanTold b (set slots (32 * S + a) (slot + 1)) (set new (length lists - 1) slot) S a slot
    told-new n =
        let T = told-spare in
        let few : 17 * slot + 18 < length new = omega (arith, n, E.long, T.slot_low) in
        let unused : last_slot new < slot = omega (arith, next, last-stays M (omega (arith, next)) (omega (arith, few, E.long)) E) in
        rw (← E.long)
        record {
          plans_in = plans-noted T.plans_in s low unused few P;
          slot_low = omega (arith, T.slot_low, length-set new (length new - 1) slot);
          plan_in = (noted_here T.plans_in s low unused few P).plan_in;
        }
