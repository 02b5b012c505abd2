-- The cell of a partial state by passes over the definitions, with values instead of formulas (01, "Set the top cell's inherited values by the partial
-- state's formulas, 0 where there is none"): an attribute is set once, by the first definition whose item is in the partial state and whose left side is
-- set. The partial state is given by a test of its items, by rule and dot. The lists are as long as 01's limit. Assumes nothing.
use Rattle.std.specs.Prelude.{ℕ, zero, suc, Bool, true, false, List, eqb, length, get_or, set, replicate}
use Rattle.grammar.specs.Limits.{MAX_INHERITED}
use Rattle.grammar.specs.Conditions.Decides.{all_below}
use Rattle.grammar.specs.Data.Symbol.{left_of}
use Rattle.grammar.specs.Data.Term.{eval}
use Rattle.grammar.specs.Data.Book.{InheritedDefinition, Book, owner_at}
use Rattle.grammar.specs.Evaluator.Decorated.{Values}
use Rattle.grammar.specs.Evaluator.Machine.{Frame, inherited_at}
use Rattle.grammar.specs.Evaluator.Chains.{stack_value}
use Rattle.grammar.specs.Formulas.Passes.{passes}
use Rattle.grammar.specs.Formulas.FormulaCheck.{dot_of, done_in, definitions, line_at}

-- the values, 0 until they are set, and which of them are set
pub data Setting : Type 0 where
  setting : List ℕ → List Bool → Setting

-- how many are set
unfoldable pub set_in : Setting → ℕ
set_in (setting values known) = done_in known

abbrev pub value_at : List ℕ → Values
value_at values K = get_or values K 0

unfoldable pub value_in : Setting → Values
value_in (setting values known) K = value_at values K

abbrev pub unset : Setting
unset = setting (replicate MAX_INHERITED 0) (replicate MAX_INHERITED false)

-- whether every attribute that A owns is set
unfoldable pub settled_in : List ℕ → List Bool → ℕ → Bool
settled_in owners known A = all_below (length owners) λ K. elim (eqb (owner_at owners K) A) [ true ↦ get_or known K true | false ↦ true ]

-- the value that a definition gives over the stack: own is read as many symbols down as its dot says, the top cell being what is set so far
unfoldable pub value_of : List Frame → List ℕ → InheritedDefinition → ℕ
value_of st values line = eval line.expression (stack_value (dot_of line) (inherited_at (dot_of line) (value_at values) st) st)

module _ (b : Book) where
  -- an item with the dot in front waits until its left side is set
  unfoldable pub ready_in : List Bool → ℕ → ℕ → Bool
  ready_in known P zero = settled_in b.inherited_owners known (left_of b.rules P)
  ready_in known P (suc D) = true

  module _ (member : ℕ → ℕ → Bool) where
    unfoldable pub due_in : List Bool → InheritedDefinition → Bool
    due_in known line = elim (member line.rule (dot_of line)) [ true ↦ ready_in known line.rule (dot_of line) | false ↦ false ]

    module _ (st : List Frame) where
      -- the definition of a place sets its attribute, if that is not set and the definition is due
      unfoldable pub set_line : ℕ → Setting → Setting
      set_line d (setting values known) =
          elim (get_or known (line_at b d).attribute true) [
            | true ↦ setting values known
            | false ↦
                elim (due_in known (line_at b d)) [
                  | true ↦ setting (set values (line_at b d).attribute (value_of st values (line_at b d))) (set known (line_at b d).attribute true)
                  | false ↦ setting values known
                ]
          ]

      unfoldable pub settled : Setting
      settled = passes set_line set_in (definitions b) unset

      unfoldable pub fill_cell : Values
      fill_cell K = value_in settled K

-- opens every definition of this module
unfoldable pub opens : Unit {0}
unfolding set_in value_in settled_in value_of ready_in due_in set_line settled fill_cell
opens = tt
