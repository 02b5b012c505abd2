-- The cell that a move sets (01, "Set the top cell's inherited values by the partial state's formulas, 0 where there is none"), in the array of the
-- inherited stack: 16 zeros, and then the values of definitions, one after the other. Assumes nothing.
use Rattle.std.specs.Prelude.{◌≡◌, ℕ, zero, suc, ◌+◌, ◌-◌, ◌*◌, ◌<◌, ◌≤◌, List, [], ◌∷◌, length, set, slice_index, slice_index_or, slice_set}
use Rattle.grammar.specs.Data.Term.{eval}
use Rattle.grammar.specs.Data.Book.{Book}
use Rattle.grammar.specs.Formulas.FormulaCheck.{dot_of, line_at}
use Rattle.plans.specs.PlanRows.{PlanRow}
use Rattle.cells.specs.Values.{place_in, Asked}

-- `count` words from a place on are 0
unfoldable pub cleared : ℕ → ℕ → List ℕ → List ℕ
cleared from zero words = words
cleared from (suc count) words = slice_set (cleared from count words) (from + count) 0

module _ (b : Book) where
  -- the definition of a line may be asked for on a stack of `height` symbols, and its attribute has a word
  pub record LineAsked (definitions : List ℕ) (height d : ℕ) : Type 0 where
    pub asked : Asked definitions d (dot_of (line_at b d)) (line_at b d).expression
    pub position_is : slice_index_or definitions (49 * d + 1) 0 ≡ (line_at b d).position
    pub attribute_is : slice_index_or definitions (49 * d + 2) 0 ≡ (line_at b d).attribute
    pub position_low : 1 ≤ (line_at b d).position
    pub attribute_low : (line_at b d).attribute < 16
    pub deep : dot_of (line_at b d) ≤ height

  -- a plan of such lines, in a row of bytes
  pub record PlanAsked (definitions plan : List ℕ) (from count height : ℕ) (lines : List ℕ) : Type 0 where
    pub row_is : PlanRow lines plan from count
    pub line_asked : (i : ℕ) → i < length lines → LineAsked definitions height (slice_index lines i)

  -- the top cell with the value of one definition, and of several
  module _ (synthesized : List ℕ) (height : ℕ) where
    unfoldable pub line_set : ℕ → List ℕ → List ℕ
    line_set d inherited =
        set inherited (16 * height + (line_at b d).attribute)
        (eval (line_at b d).expression (place_in (height - dot_of (line_at b d)) inherited synthesized))

    unfoldable pub lines_set : List ℕ → List ℕ → List ℕ
    lines_set [] inherited = inherited
    lines_set (d ∷ ds) inherited = lines_set ds (line_set d inherited)

-- opens every definition of this module
unfoldable pub opens : Unit {0}
unfolding cleared line_set lines_set
opens = tt
