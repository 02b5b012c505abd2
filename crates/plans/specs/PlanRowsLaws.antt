-- Laws of a plan that is being made in a row of bytes: what a visit of a definition does, what the passes do, and that nothing else changes.
-- Assumes nothing.
use Rattle.std.specs.Prelude.{ℕ, ◌+◌, ◌*◌, ◌<◌, ◌≤◌, ◌≡◌, refl, Bool, not, List, [], ◌∷◌, ◌++◌, length, set}
use Rattle.std.proofs.Common.{arith, ◌∙◌, length-append, get_or-set_same, get_or-set_other}
use Rattle.std.proofs.Math.Decide.{ℕ_discrete}
use Rattle.std.proofs.Math.Path.{sym, ap}
use Rattle.std.proofs.Math.Bool.{true, false}
use borrow.Author.Tests.{not-true, not-false}
use Rattle.std.proofs.Math.ListN.{get_or, length-set, get_or-append}
use Rattle.std.proofs.Math.Seq.{get_or-append_seam}
use Rattle.sets.specs.Sets.{bit, with}
use Rattle.sets.proofs.SetsLaws.{with-self}
use Rattle.grammar.specs.Limits.{MAX_INHERITED}
use Rattle.grammar.specs.Automaton.TestLaws.{true-false}
use Rattle.grammar.specs.Data.Book.{Book}
use Rattle.grammar.specs.Formulas.FormulaCheck as grammar
use Rattle.grammar.specs.Formulas.FormulaCheck.{dot_of, line_at}
use Rattle.grammar.proofs.Formulas.FormulaCheckSteps.{done_more, done-length}
use Rattle.grammar.specs.Formulas.Plan.{ready_in, due_in}
use Rattle.grammar.specs.Formulas.Slots.{ready}
use Rattle.attributes.specs.Owned.{KnownIn, with-other}
use Rattle.attributes.specs.Checking.{CheckHeld}
use Rattle.attributes.specs.CheckingLaws.{attribute-word, attribute_low}
use Rattle.plans.specs.Planning.{Planning, planning, lines_of, known_of, plan_line}
use Rattle.plans.specs.PlanningLaws.{plan_line-by, plan_line-sets, planned-more}
use Rattle.plans.specs.DueLaws.{slots_for, known-for, ready-known, due-own}
use Rattle.plans.specs.PlanRows.{PlanRow, Elsewhere, PlanningIn}

-- Outside a part of the row

pub elsewhere-same : {from to : ℕ} {row : List ℕ} → Elsewhere from to row row
elsewhere-same = record { long = refl; before = λ i h. refl; behind = λ i h. refl }

pub elsewhere-then : {from to : ℕ} {old row new : List ℕ} → Elsewhere from to old row → Elsewhere from to row new → Elsewhere from to old new
elsewhere-then E F = record {
  long = F.long ∙ E.long;
  before = λ i h. F.before i h ∙ E.before i h;
  behind = λ i h. F.behind i h ∙ E.behind i h;
}

pub elsewhere-wider : {from to first last : ℕ} {old new : List ℕ} → first ≤ from → to ≤ last → Elsewhere from to old new → Elsewhere first last old new
elsewhere-wider low high E = record {
  long = E.long;
  before = λ i h. E.before i (omega arith);
  behind = λ i h. E.behind i (omega arith);
}

pub elsewhere-set : (from to k : ℕ) (row : List ℕ) (x : ℕ) → from ≤ k → k < to → Elsewhere from to row (set row k x)
elsewhere-set from to k row x low high = record {
  long = length-set row k x;
  before = λ i h. get_or-set_other row k i x 0 (λ e. absurd (omega arith));
  behind = λ i h. get_or-set_other row k i x 0 (λ e. absurd (omega arith));
}

-- A visit

-- a line more in the row
row_more : (lines row : List ℕ) (from count d : ℕ) → PlanRow lines row from count → from + count < length row
    → PlanRow (lines ++ d ∷ []) (set row (from + count) d) from (count + 1)
row_more lines row from count d R room = record {
  count_is = omega (arith, length-append lines (d ∷ []), R.count_is);
  line_is = λ i h. by i h (ℕ_discrete i count);
}
  where
    by : (i : ℕ) → i < length (lines ++ d ∷ []) → Dec (i ≡ count) → get_or (set row (from + count) d) (from + i) 0 ≡ get_or (lines ++ d ∷ []) i 0
    by i h (yes e) =
        rw (e, get_or-set_same row (from + count) d 0 room, R.count_is) (sym (get_or-append_seam lines d [] 0))
    by i h (no n) =
        let low : i < length lines = omega (arith, length-append lines (d ∷ []), R.count_is) in
        get_or-set_other row (from + count) (from + i) d 0 (λ e. n (omega arith)) ∙ R.line_is i low ∙ sym (get_or-append lines (d ∷ []) 0 i low)

-- the set with one attribute more
known_more : (done : List Bool) (known A : ℕ) → length done ≡ MAX_INHERITED → ((K : ℕ) → K < MAX_INHERITED → bit known K ≡ get_or done K true)
    → A < MAX_INHERITED → (K : ℕ) → K < MAX_INHERITED → bit (with known A) K ≡ get_or (set done A true) K true
known_more done known A long is low K h = by (ℕ_discrete K A)
  where
    by : Dec (K ≡ A) → bit (with known A) K ≡ get_or (set done A true) K true
    by (yes e) = rw e (with-self known A (omega arith) ∙ sym (get_or-set_same done A true true (omega arith)))
    by (no n) = with-other known A K (omega arith) n ∙ is K h ∙ sym (get_or-set_other done A K true true n)

-- what is known, as formulas that stand
pub known-slots : {b : Book} {member : ℕ → ℕ → Bool} (s : Planning) {row : List ℕ} {from known count : ℕ} → PlanningIn b member s row from known count
    → KnownIn (slots_for (known_of s)) known
known-slots s R = known-for (known_of s) R.planned.known_long R.known_is

module _ {b : Book} {definitions rules owned masks : List ℕ} (H : CheckHeld b definitions rules owned masks) {d : ℕ} (l : d < grammar.definitions b)
    {member : ℕ → ℕ → Bool} where
  -- the attribute's bit tells whether it is set
  known-word : (s : Planning) {row : List ℕ} {from known count : ℕ} → PlanningIn b member s row from known count
      → bit known (get_or definitions (49 * d + 2) 0) ≡ get_or (known_of s) (line_at b d).attribute true
  known-word s R = R.known_is (get_or definitions (49 * d + 2) 0) (attribute_low H l) ∙ ap (λ (K : ℕ). get_or (known_of s) K true) (attribute-word H l)

  -- whether it waits for its left side, by what is known
  waits : (s : Planning) {row : List ℕ} {from known count : ℕ} → PlanningIn b member s row from known count
      → ready b (slots_for (known_of s)) (line_at b d).rule (dot_of (line_at b d)) ≡ ready_in b (known_of s) (line_at b d).rule (dot_of (line_at b d))
  waits s R =
      ready-known b (known_of s) (omega (arith, R.planned.known_long, H.premises.attributes_limit)) (line_at b d).rule (dot_of (line_at b d))

  -- nothing happens where the attribute is set, or the definition waits
  pub visit-set : (s : Planning) {row : List ℕ} {from known count : ℕ} → PlanningIn b member s row from known count
      → bit known (get_or definitions (49 * d + 2) 0) ≡ true → PlanningIn b member (plan_line b member d s) row from known count
  unfolding known_of
  visit-set (planning lines done) {row} {from} {known} {count} R e =
      plan_line-by b member (λ t. PlanningIn b member t row from known count) d lines done R (λ n h. true-false (sym (known-word (planning lines done) R) ∙ e) n)

  pub visit-waits : member (line_at b d).rule (dot_of (line_at b d)) ≡ true → (s : Planning) {row : List ℕ} {from known count : ℕ}
      → PlanningIn b member s row from known count
      → {t : Bool} → t ≡ ready b (slots_for (known_of s)) (line_at b d).rule (dot_of (line_at b d)) → not t ≡ true
      → PlanningIn b member (plan_line b member d s) row from known count
  unfolding known_of
  visit-waits own (planning lines done) {row} {from} {known} {count} R {t} e f =
      plan_line-by b member (λ s. PlanningIn b member s row from known count) d lines done R
      (λ n h. true-false (e ∙ waits (planning lines done) R ∙ sym (due-own b member done (line_at b d) own) ∙ h) (not-true t f))

  -- where it is not set, there is room for a line more
  pub count_low : (s : Planning) {row : List ℕ} {from known count : ℕ} → PlanningIn b member s row from known count
      → bit known (get_or definitions (49 * d + 2) 0) ≡ false → count < MAX_INHERITED
  count_low s R e =
      let more = done_more (known_of s) (line_at b d).attribute (sym (known-word s R) ∙ e) in
      omega (
        arith,
        more,
        done-length (set (known_of s) (line_at b d).attribute true),
        length-set (known_of s) (line_at b d).attribute true,
        R.planned.known_long,
        R.planned.count_is,
        R.row_is.count_is,
      )

  -- any other is planned
  pub visit-sets : member (line_at b d).rule (dot_of (line_at b d)) ≡ true → (s : Planning) {row : List ℕ} {from known count : ℕ}
      → PlanningIn b member s row from known count
      → bit known (get_or definitions (49 * d + 2) 0) ≡ false
      → {t : Bool} → t ≡ ready b (slots_for (known_of s)) (line_at b d).rule (dot_of (line_at b d)) → not t ≡ false
      → PlanningIn b member (plan_line b member d s) (set row (from + count) d) from (with known (get_or definitions (49 * d + 2) 0)) (count + 1)
  unfolding known_of lines_of
  visit-sets own (planning lines done) {row} {from} {known} {count} R e {t} f g =
      let open-line : get_or done (line_at b d).attribute true ≡ false = sym (known-word (planning lines done) R) ∙ e in
      let is-due : due_in b member done (line_at b d) ≡ true = due-own b member done (line_at b d) own ∙ sym (waits (planning lines done) R) ∙ sym f ∙ not-false t g in
      let low = count_low (planning lines done) R e in
      rw (plan_line-sets b member d lines done open-line is-due) (record {
        planned = planned-more b member d l R.planned open-line is-due;
        room = omega (arith, length-set row (from + count) d, R.room);
        known_is = λ K h.
            ap (λ (A : ℕ). bit (with known A) K) (attribute-word H l)
            ∙ known_more done known (line_at b d).attribute R.planned.known_long R.known_is (omega (arith, attribute-word H l, attribute_low H l)) K h;
        row_is = row_more lines row from count d R.row_is (omega (arith, R.room, low));
      })
