-- The plan of a partial state: which definitions set the top cell, in order (01, "Set the top cell's inherited values by the partial state's formulas").
-- Whether a definition sets its attribute depends on what is known and never on values, so the passes of `Formulas/Plan` of the grammar are gone through
-- once without values; the definitions that they set are then applied to any stack. Assumes nothing.
use Rattle.std.specs.Prelude.{ℕ, Bool, true, false, List, [], ◌∷◌, ◌++◌, get_or, set, replicate}
use Rattle.grammar.specs.Limits.{MAX_INHERITED}
use Rattle.grammar.specs.Data.Book.{Book}
use Rattle.grammar.specs.Evaluator.Machine.{Frame}
use Rattle.grammar.specs.Formulas.Passes.{passes}
use Rattle.grammar.specs.Formulas.FormulaCheck.{done_in, definitions, line_at}
use Rattle.grammar.specs.Formulas.Plan.{value_of, due_in}

-- the lines of definitions so far, in order, and which attributes they set
pub data Planning : Type 0 where
  planning : List ℕ → List Bool → Planning

-- how many are set
unfoldable pub known_in : Planning → ℕ
known_in (planning lines known) = done_in known

unfoldable pub lines_of : Planning → List ℕ
lines_of (planning lines known) = lines

unfoldable pub known_of : Planning → List Bool
known_of (planning lines known) = known

abbrev pub unplanned : Planning
unplanned = planning [] (replicate MAX_INHERITED false)

module _ (b : Book) where
  -- the values after definitions, one after the other, over a stack
  unfoldable pub applied : List Frame → List ℕ → List ℕ → List ℕ
  applied st [] values = values
  applied st (d ∷ ds) values = applied st ds (set values (line_at b d).attribute (value_of st values (line_at b d)))

  module _ (member : ℕ → ℕ → Bool) where
    -- the definition of a place is planned, if its attribute is not set and it is due
    unfoldable pub plan_line : ℕ → Planning → Planning
    plan_line d (planning lines known) =
        elim (get_or known (line_at b d).attribute true) [
          | true ↦ planning lines known
          | false ↦
              elim (due_in b member known (line_at b d)) [
                | true ↦ planning (lines ++ d ∷ []) (set known (line_at b d).attribute true)
                | false ↦ planning lines known
              ]
        ]

    unfoldable pub planned : Planning
    planned = passes plan_line known_in (definitions b) unplanned

    -- the lines that set the cell of the partial state, in order
    unfoldable pub plan : List ℕ
    plan = lines_of planned

-- opens every definition of this module
unfoldable pub opens : Unit {0}
unfolding known_in lines_of known_of applied plan_line planned plan
opens = tt
