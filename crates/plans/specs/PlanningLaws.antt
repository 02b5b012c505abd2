-- What a reader of a plan may rely on: its lines are definitions of items of the partial state, at most one for each attribute; and that the planning
-- passes end. Assumes nothing.
use Rattle.std.specs.Prelude.{ℕ, zero, suc, ◌≤◌, ◌<◌, ◌^◌, ◌≡◌, refl, Bool, List, [], ◌∷◌, ◌++◌, get_or, set}
use Rattle.std.proofs.Common.{arith, ◌∙◌, inl, length-set, length-append}
use Rattle.std.proofs.Math.Decide.{dec_lt}
use Rattle.std.proofs.Math.Path.{ap}
use Rattle.std.proofs.Math.Logic.{inr}
use Rattle.std.proofs.Math.Bool.{true, false}
use Rattle.std.proofs.Math.ListN.{length, length-replicate, get_or-eq_default}
use Rattle.grammar.specs.Limits.{MAX_INHERITED}
use Rattle.grammar.specs.Automaton.TestLaws.{by-test, true-false}
use Rattle.grammar.specs.Data.Book.{Book}
use Rattle.grammar.specs.Formulas.Passes.{Larger, Keeps, Growing, passes-keep}
use Rattle.grammar.specs.Formulas.FormulaCheck.{dot_of, done_in, definitions, line_at}
use Rattle.grammar.proofs.Formulas.FormulaCheckSteps.{done_more, done-length}
use Rattle.grammar.specs.Formulas.FormulaCheckAll.{SameItems}
use Rattle.grammar.specs.Formulas.Plan.{ready_in, due_in}
use Rattle.plans.specs.Planning.{Planning, planning, known_in, lines_of, unplanned, plan_line, planned, plan}

-- a line of a plan: a definition of an item of the partial state
pub record PlanLine (b : Book) (member : ℕ → ℕ → Bool) (d : ℕ) : Type 0 where
  pub line_low : d < definitions b
  pub attribute_low : (line_at b d).attribute < MAX_INHERITED
  pub item_in : member (line_at b d).rule (dot_of (line_at b d)) ≡ true

-- what is not known is one of the attributes
unknown-low : (known : List Bool) (K : ℕ) → get_or known K true ≡ false → K < length known
unknown-low known K e = by (dec_lt K (length known))
  where
    by : Dec (K < length known) → K < length known
    by (yes l) = l
    by (no n) = true-false (get_or-eq_default known true (omega arith)) e

due-item : (b : Book) (member : ℕ → ℕ → Bool) (known : List Bool) (d : ℕ) → due_in b member known (line_at b d) ≡ true
    → member (line_at b d).rule (dot_of (line_at b d)) ≡ true
unfolding due_in
due-item b member known d h = by (member (line_at b d).rule (dot_of (line_at b d))) refl
  where
    by : (t : Bool) → member (line_at b d).rule (dot_of (line_at b d)) ≡ t → member (line_at b d).rule (dot_of (line_at b d)) ≡ true
    by true e = e
    by false e = let z = rw (e, due_in) at h in absurd (let w : ◌≡◌ {A = ℕ} 0 1 = cc in omega arith)

-- a place of a list with one element more is a place of the list, or that of the element
after-each : (Q : ℕ → Type 0) (l : List ℕ) (d : ℕ) → ((i : ℕ) → i < length l → Q (get_or l i 0)) → Q d → (i : ℕ) → i < length (l ++ d ∷ [])
    → Q (get_or (l ++ d ∷ []) i 0)
after-each Q [] d each q zero h = q
after-each Q [] d each q (suc i) h = absurd (omega arith)
after-each Q (x ∷ l) d each q zero h = each zero (omega arith)
after-each Q (x ∷ l) d each q (suc i) h = after-each Q l d (λ j m. each (suc j) (omega arith)) q i (omega arith)

module _ (b : Book) (member : ℕ → ℕ → Bool) where
  -- as many lines as attributes known, each a definition of an item of the partial state
  pub record Planned (lines : List ℕ) (known : List Bool) : Type 0 where
    pub known_long : length known ≡ MAX_INHERITED
    pub count_is : length lines ≡ done_in known
    pub each_line : (i : ℕ) → i < length lines → PlanLine b member (get_or lines i 0)

  abbrev pub Right : Planning → Type 0
  Right (planning lines known) = Planned lines known

  pub plan_line-by : (Q : Planning → Type 0) (d : ℕ) (lines : List ℕ) (known : List Bool) → Q (planning lines known)
      → (get_or known (line_at b d).attribute true ≡ false → due_in b member known (line_at b d) ≡ true
      → Q (planning (lines ++ d ∷ []) (set known (line_at b d).attribute true)))
      → Q (plan_line b member d (planning lines known))
  unfolding plan_line
  plan_line-by Q d lines known nothing sets =
      by-test (get_or known (line_at b d).attribute true) _ _ Q (λ e. nothing) (λ e. by-test (due_in b member known (line_at b d)) _ _ Q (sets e) (λ h. nothing))

  pub plan_line-sets : (d : ℕ) (lines : List ℕ) (known : List Bool) → get_or known (line_at b d).attribute true ≡ false
      → due_in b member known (line_at b d) ≡ true
      → plan_line b member d (planning lines known) ≡ planning (lines ++ d ∷ []) (set known (line_at b d).attribute true)
  unfolding plan_line
  plan_line-sets d lines known e h = rw (plan_line, e, h)

  -- a definition whose item is not in the partial state is not planned
  pub plan_line-absent : (d : ℕ) → member (line_at b d).rule (dot_of (line_at b d)) ≡ false → (s : Planning) → plan_line b member d s ≡ s
  plan_line-absent d e (planning lines known) =
      plan_line-by (λ t. t ≡ planning lines known) d lines known refl (λ n h. true-false (due-item b member known d h) e)

  pub planned-more : (d : ℕ) → d < definitions b → {lines : List ℕ} {known : List Bool} → Planned lines known
      → get_or known (line_at b d).attribute true ≡ false → due_in b member known (line_at b d) ≡ true
      → Planned (lines ++ d ∷ []) (set known (line_at b d).attribute true)
  planned-more d l {lines} {known} P e h =
      let K = (line_at b d).attribute in
      record {
        known_long = length-set known K true ∙ P.known_long;
        count_is = omega (arith, length-append lines (d ∷ []), P.count_is, done_more known K e);
        each_line = after-each (PlanLine b member) lines d P.each_line (record {
          line_low = l;
          attribute_low = omega (arith, unknown-low known K e, P.known_long);
          item_in = due-item b member known d h;
        });
      }

  plan_line-right : Keeps (plan_line b member) Right (definitions b)
  plan_line-right d l (planning lines known) P = plan_line-by Right d lines known P λ e h. planned-more d l P e h

  plan_line-grows : (d : ℕ) → d < definitions b → (s : Planning) → Right s → Larger known_in s (plan_line b member d s)
  unfolding known_in
  plan_line-grows d l (planning lines known) P =
      plan_line-by (Larger known_in (planning lines known)) d lines known (inl refl) λ e h.
      let more = done_more known (line_at b d).attribute e in
      inr (omega arith)

  known-bound : (s : Planning) → Right s → known_in s ≤ 2 ^ 40
  unfolding known_in
  known-bound (planning lines known) P = omega (arith, done-length known, P.known_long)

  pub planning-growing : Growing (plan_line b member) (definitions b) Right known_in
  planning-growing = record { keeps = plan_line-right; grows = plan_line-grows; below = known-bound }

  pub unplanned-right : Right unplanned
  unfolding done_in
  unplanned-right = record {
    known_long = length-replicate MAX_INHERITED false;
    count_is = refl;
    each_line = λ i h. absurd (omega arith);
  }

  planned-right : Right (planned b member)
  unfolding planned
  planned-right = passes-keep (plan_line b member) Right known_in (definitions b) plan_line-right unplanned unplanned-right

  -- a plan of no items has no lines
  pub plan-none : ((d : ℕ) → d < definitions b → member (line_at b d).rule (dot_of (line_at b d)) ≡ false) → plan b member ≡ []
  unfolding plan planned lines_of
  plan-none none =
      ap lines_of
      (passes-keep (plan_line b member) (λ (s : Planning). s ≡ unplanned) known_in (definitions b) (λ d l s e. plan_line-absent d (none d l) s ∙ e) unplanned refl)

  -- a plan has at most a line for each attribute
  pub plan-short : length (plan b member) ≤ MAX_INHERITED
  unfolding plan lines_of
  plan-short = by (planned b member) planned-right
    where
      by : (s : Planning) → Right s → length (lines_of s) ≤ MAX_INHERITED
      by (planning lines known) P = omega (arith, P.count_is, done-length known, P.known_long)

  pub plan-line : (i : ℕ) → i < length (plan b member) → PlanLine b member (get_or (plan b member) i 0)
  unfolding plan lines_of
  plan-line = by (planned b member) planned-right
    where
      by : (s : Planning) → Right s → (i : ℕ) → i < length (lines_of s) → PlanLine b member (get_or (lines_of s) i 0)
      by (planning lines known) P = P.each_line

-- tests that agree on the items of the definitions give the same plan
module _ (b : Book) (member other : ℕ → ℕ → Bool) (agree : SameItems b member other) where
  due-same : (d : ℕ) → d < definitions b → (known : List Bool) → due_in b member known (line_at b d) ≡ due_in b other known (line_at b d)
  unfolding due_in
  due-same d l known = ap (λ t. elim t [ true ↦ ready_in b known (line_at b d).rule (dot_of (line_at b d)) | false ↦ false ]) (agree d l)
