-- Laws of the planning passes over bytes: each leaves their end as it is, and the last one is at it. Assumes nothing.
use Rattle.std.specs.Prelude.{ℕ, ◌+◌, ◌≤◌, ◌≡◌, refl, Bool, List, length}
use Rattle.std.proofs.Common.{arith, ap, ◌∙◌, inl, inr}
use Rattle.std.proofs.Math.Path.{sym}
use Rattle.std.proofs.Math.Bool.{true, false}
use Rattle.std.proofs.lemmas.List.{get_or-replicate}
use Rattle.sets.specs.Sets.{empty}
use Rattle.sets.proofs.SetsLaws.{bit-empty}
use Rattle.grammar.specs.Limits.{MAX_INHERITED}
use Rattle.grammar.specs.Data.Book.{Book}
use Rattle.grammar.specs.Formulas.Passes.{visits, passes, Larger, Keeps, visits-keep, passes-turn, passes-end}
use Rattle.grammar.specs.Formulas.FormulaCheck.{definitions}
use Rattle.grammar.proofs.Formulas.FormulaCheckSteps.{done-length}
use Rattle.plans.specs.Planning.{Planning, planning, known_in, lines_of, known_of, unplanned, plan_line, planned, plan}
use Rattle.plans.specs.PlanningLaws.{Right, planning-growing, unplanned-right}
use Rattle.plans.specs.PlanRows.{PlanRow, PlanningIn}

module _ (b : Book) (member : ℕ → ℕ → Bool) where
  -- how many are set, by the count of lines
  right : (s : Planning) {row : List ℕ} {from known count : ℕ} → PlanningIn b member s row from known count → Right b member s
  unfolding lines_of known_of
  right (planning lines known) R = R.planned

  size : (s : Planning) {row : List ℕ} {from known count : ℕ} → PlanningIn b member s row from known count → known_in s ≡ count
  unfolding lines_of known_of known_in
  size (planning lines known) R = sym (R.row_is.count_is ∙ R.planned.count_is)

  abbrev end : Planning → Planning
  end = passes (plan_line b member) known_in (definitions b)

  -- where the passes are, on the way from `start` to its end
  pub record Passing (start : Planning) (row : List ℕ) (from known count : ℕ) : Type 0 where
    pub now_at : Planning
    pub holds : PlanningIn b member now_at row from known count
    pub same_end : end now_at ≡ end start

  pub passing-start : (s : Planning) {row : List ℕ} {from known count : ℕ} → PlanningIn b member s row from known count → Passing s row from known count
  passing-start s R = record { now_at = s; holds = R; same_end = refl }

  -- a pass changes nothing, or sets more
  further : (s : Planning) → Right b member s → Larger known_in s (visits (plan_line b member) (definitions b) s)
  further s r = (visits-keep (plan_line b member) (λ t. Right b member t × Larger known_in s t) (definitions b) keep s (r, inl refl)).1
    where
      more : {t u : Planning} → Larger known_in s t → Larger known_in t u → Larger known_in s u
      more (inl e) (inl f) = inl (f ∙ e)
      more (inl e) (inr m) = inr (rw e at m)
      more (inr l) (inl f) = inr (rw f l)
      more (inr l) (inr m) = inr (omega arith)

      keep : Keeps (plan_line b member) (λ t. Right b member t × Larger known_in s t) (definitions b)
      keep d l t (k, h) = ((planning-growing b member).keeps d l t k, more h ((planning-growing b member).grows d l t k))

  module _ {start : Planning} {row : List ℕ} {from known count : ℕ} (P : Passing start row from known count) where
    pub few-lines : count ≤ MAX_INHERITED
    few-lines = omega (arith, P.holds.row_is.count_is, P.holds.planned.count_is, done-length (known_of P.now_at), P.holds.planned.known_long)

    module _ {row' : List ℕ} {known' count' : ℕ}
        (R : PlanningIn b member (visits (plan_line b member) (definitions b) P.now_at) row' from known' count') where
      pub passing-turn : Passing start row' from known' count'
      passing-turn = record {
        now_at = visits (plan_line b member) (definitions b) P.now_at;
        holds = R;
        same_end = passes-turn (planning-growing b member) P.now_at (right P.now_at P.holds) ∙ P.same_end;
      }

      pub passing-further : count ≤ count'
      passing-further = by (further P.now_at (right P.now_at P.holds))
        where
          by : Larger known_in P.now_at (visits (plan_line b member) (definitions b) P.now_at) → count ≤ count'
          by (inl e) = omega (arith, ap known_in e, size P.now_at P.holds, size _ R)
          by (inr l) = omega (arith, l, size P.now_at P.holds, size _ R)

      -- a pass that adds no line is at the end
      pub passing-end : count' ≡ count → PlanningIn b member (end start) row' from known' count'
      passing-end same =
          let r = right P.now_at P.holds in
          let sizes : known_in (visits (plan_line b member) (definitions b) P.now_at) ≡ known_in P.now_at =
          size _ R ∙ same ∙ sym (size P.now_at P.holds) in
          let still : visits (plan_line b member) (definitions b) P.now_at ≡ P.now_at = by (further P.now_at r) sizes in
          let is : end start ≡ visits (plan_line b member) (definitions b) P.now_at =
          sym P.same_end ∙ passes-end (planning-growing b member) P.now_at r sizes ∙ sym still in
          rw is R
        where
          by : {t : Planning} → Larger known_in P.now_at t → known_in t ≡ known_in P.now_at → t ≡ P.now_at
          by (inl e) q = e
          by (inr l) q = absurd (omega arith)

  -- The whole plan

  -- where it begins
  pub begun : {row : List ℕ} {from : ℕ} → from + MAX_INHERITED ≤ length row → PlanningIn b member unplanned row from 0 0
  unfolding lines_of known_of empty
  begun room = record {
    planned = unplanned-right b member;
    room = room;
    known_is = λ K h. bit-empty K ∙ sym (get_or-replicate {A = Bool} 16 K false true h);
    row_is = record { count_is = refl; line_is = λ i h. absurd (omega arith) };
  }

  pub ended : {row : List ℕ} {from known count : ℕ} → PlanningIn b member (end unplanned) row from known count → PlanRow (plan b member) row from count
  unfolding plan planned
  ended R = R.row_is
