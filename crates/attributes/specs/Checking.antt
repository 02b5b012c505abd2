-- What the one-formula check (`FormulaCheck` of the grammar) asks of a book's arrays, and a partial state by the sets of terminals of its items.
-- Assumes nothing.
use Rattle.std.specs.Prelude.{ℕ, ◌+◌, ◌*◌, ◌<◌, ◌≤◌, Bool, List, length, get_or}
use Rattle.sets.specs.Sets.{bit, meets}
use Rattle.grammar.specs.Limits.{MAX_NODES}
use Rattle.grammar.specs.Data.Symbol.{left_of}
use Rattle.grammar.specs.Data.Term.{nodes}
use Rattle.grammar.specs.Data.Book.{Book}
use Rattle.grammar.specs.Formulas.Slots.{attributes}
use Rattle.grammar.specs.Formulas.FormulaCheck as FormulaCheck
use Rattle.grammar.specs.Formulas.FormulaCheck.{line_at}
use Rattle.grammar.specs.Formulas.DefinitionPremises.{DefinitionPremises}
use Rattle.book.specs.Held.{RulesIn, DefinitionsIn}
use Rattle.attributes.specs.Owned.{OwnedIn}

-- item (P, D) is in the partial state if its set has the terminal
abbrev pub member_of : List ℕ → ℕ → ℕ → ℕ → Bool
member_of masks a P D = bit (get_or masks (9 * P + D) 0) a

-- item (P, D) is in one of the partial states of a set of terminals
abbrev pub member_in : List ℕ → ℕ → ℕ → ℕ → Bool
member_in masks wanted P D = meets (get_or masks (9 * P + D) 0) wanted

-- where a definition's line points: a rule, and a position of its right side
pub record LineIn (b : Book) (d : ℕ) : Type 0 where
  pub rule_there : (line_at b d).rule < length b.rules
  pub position_low : 1 ≤ (line_at b d).position
  pub position_high : (line_at b d).position ≤ 8
  pub few_nodes : nodes (line_at b d).expression ≤ MAX_NODES

-- what the check asks of a book and of its arrays
pub record CheckHeld (b : Book) (definitions rules owned masks : List ℕ) : Type 0 where
  pub definitions_in : DefinitionsIn b.inherited_definitions b.synthesized_definitions definitions
  pub rules_in : RulesIn b.rules rules
  pub owned_in : OwnedIn b.inherited_owners (attributes b) owned
  pub masks_long : 9 * length b.rules ≤ length masks
  pub premises : DefinitionPremises b
  pub line_in : (d : ℕ) → d < FormulaCheck.definitions b → LineIn b d
  pub left_low : (P : ℕ) → P < length b.rules → left_of b.rules P < 32
