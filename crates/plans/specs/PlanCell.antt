-- A plan sets the cell that the passes over values set, whatever the stack: they visit the same definitions and set the same attributes.
-- Assumes nothing.
use Prim.Native.Nat.{ℕ}
use Rattle.std.specs.Prelude.{◌≡◌, Bool, true, false, length, set, replicate}
use Rattle.std.proofs.Math.Path.{refl, ap}
use Rattle.std.proofs.Common.{sym, ◌∙◌}
use mathlib.Core.List.{List, [], ◌∷◌, ◌++◌}
use Rattle.std.proofs.Math.ListN.{get_or, length-set}
use Rattle.grammar.specs.Limits.{MAX_INHERITED}
use Rattle.grammar.specs.Data.Book.{Book}
use Rattle.grammar.specs.Evaluator.Machine.{Frame, cell}
use Rattle.grammar.specs.Engine.{tables_of}
use Rattle.grammar.specs.Format.Ordered.{Spelled}
use Rattle.grammar.specs.Refusal.{Sound}
use Rattle.grammar.specs.Formulas.FormulaCheck.{definitions, line_at}
use Rattle.grammar.proofs.Formulas.FormulaCheckLaws.{Tells}
use Rattle.grammar.specs.Formulas.Plan.{Setting, setting, set_in, value_in, value_of, due_in, set_line, settled, fill_cell}
use Rattle.grammar.proofs.Formulas.PlanLaws.{taken-cell}
use Rattle.plans.specs.Planning.{Planning, planning, known_in, lines_of, unplanned, applied, plan_line, planned, plan}
use Rattle.plans.specs.Following.{passes-follow}

module _ (b : Book) where
  -- one definition more
  pub applied-after : (st : List Frame) (ds : List ℕ) (d : ℕ) (values : List ℕ)
      → applied b st (ds ++ d ∷ []) values
      ≡ set (applied b st ds values) (line_at b d).attribute (value_of st (applied b st ds values) (line_at b d))
  unfolding applied
  applied-after st [] d values = refl
  applied-after st (e ∷ ds) d values = applied-after st ds d (set values (line_at b e).attribute (value_of st values (line_at b e)))

  pub applied-length : (st : List Frame) (ds values : List ℕ) → length (applied b st ds values) ≡ length values
  unfolding applied
  applied-length st [] values = refl
  applied-length st (d ∷ ds) values =
      applied-length st ds (set values (line_at b d).attribute (value_of st values (line_at b d))) ∙ length-set values _ _

  module _ (st : List Frame) where
    -- what is planned, with its values
    abbrev valued : Planning → Setting
    valued (planning lines known) = setting (applied b st lines (replicate MAX_INHERITED 0)) known

    valued-size : (s : Planning) → set_in (valued s) ≡ known_in s
    unfolding set_in known_in
    valued-size (planning lines known) = refl

    module _ (member : ℕ → ℕ → Bool) where
      valued-line : (d : ℕ) (s : Planning) → set_line b member st d (valued s) ≡ valued (plan_line b member d s)
      unfolding set_line plan_line
      valued-line d (planning lines known) = by (get_or known (line_at b d).attribute true) (due_in b member known (line_at b d))
        where
          values : List ℕ
          values = applied b st lines (replicate MAX_INHERITED 0)

          next : List Bool
          next = set known (line_at b d).attribute true

          by : (t u : Bool) → elim t [
            | true ↦ setting values known
            | false ↦ elim u [ true ↦ setting (set values (line_at b d).attribute (value_of st values (line_at b d))) next | false ↦ setting values known ]
          ] ≡ valued (elim t [ true ↦ planning lines known | false ↦ elim u [ true ↦ planning (lines ++ d ∷ []) next | false ↦ planning lines known ] ])
          by true u = refl
          by false true = ap (λ l. setting l next) (sym (applied-after st lines d (replicate MAX_INHERITED 0)))
          by false false = refl

      settled-valued : settled b member st ≡ valued (planned b member)
      unfolding settled planned applied
      settled-valued = passes-follow (plan_line b member) (set_line b member st) valued valued-line known_in set_in valued-size (definitions b) unplanned

      -- the cell is what the plan's lines make of zeros, whatever the stack
      pub plan-cell : (K : ℕ) → fill_cell b member st K ≡ get_or (applied b st (plan b member) (replicate MAX_INHERITED 0)) K 0
      unfolding fill_cell value_in plan lines_of
      plan-cell K = ap (λ s. value_in s K) settled-valued ∙ by (planned b member)
        where
          by : (s : Planning) → value_in (valued s) K ≡ get_or (applied b st (lines_of s) (replicate MAX_INHERITED 0)) K 0
          by (planning lines known) = refl

-- the plan of a partial state of a book that is taken sets its cell
pub planned-cell : {b : Book} → Spelled b → Sound b → (S a : ℕ) (member : ℕ → ℕ → Bool) → Tells b S a member → (st : List Frame) (K : ℕ)
    → get_or (applied b st (plan b member) (replicate MAX_INHERITED 0)) K 0 ≡ cell (tables_of b) S a st K
planned-cell {b} spelled s S a member tells st K = sym (plan-cell b st member K) ∙ taken-cell spelled s S a member tells st K
