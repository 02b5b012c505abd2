-- A configuration of the machine (`Evaluator/Machine` of the grammar) in arrays: the frames on the stacks, the rows in the lent words, the tokens by
-- position; and the arrays of a book that is taken. Assumes nothing.
use Rattle.std.specs.Prelude.{ℕ, ◌≤◌, ◌<◌, ◌≡◌, List, [], ◌∷◌, length, get_or, drop}
use Rattle.std.proofs.Math.Option.{Option}
use Rattle.std.proofs.Common.{arith}
use Rattle.grammar.specs.Limits.{MAX_ROWS, MAX_TOKENS}
use Rattle.grammar.specs.Data.Book.{Book}
use Rattle.grammar.specs.Format.Ordered.{Spelled}
use Rattle.grammar.specs.Automaton.States.{Action}
use Rattle.grammar.specs.Evaluator.Tree.{Token, next, TokensOf}
use Rattle.grammar.specs.Evaluator.Rows.{Row}
use Rattle.grammar.specs.Evaluator.Machine.{Frame, Config, config, more, cell, step}
use Rattle.grammar.proofs.Evaluator.TakenPremises.{premises}
use Rattle.grammar.specs.Refusal.{Sound}
use Rattle.grammar.specs.Engine.{tables_of}
use Rattle.book.specs.Held.{RulesIn, DefinitionsIn}
use Rattle.items.specs.Arrays.{GoTableIn}
use Rattle.cells.specs.Frames.{cell_value, FramesIn}
use Rattle.stack.specs.declared.top.Top.{Top}
use Rattle.stack.specs.Spans.{SpansIn}
use Rattle.stack.specs.Lists.{ListsIn}
use Rattle.stack.specs.Page.{RowsIn}
use Rattle.stack.specs.Path.{Path, path-state}

-- a book that is taken, in the arrays that every move reads
pub record BookIn (b : Book) (rules definitions table : List ℕ) : Type 0 where
  pub spelled : Spelled b
  pub sound : Sound b
  pub rules_in : RulesIn b.rules rules
  pub definitions_in : DefinitionsIn b.inherited_definitions b.synthesized_definitions definitions
  pub table_in : GoTableIn b table

-- the state on top of a path is one of the book's
pub state_low : {b : Book} {rules definitions table : List ℕ} → BookIn b rules definitions table → {S : ℕ} {st : List Frame} → Path (tables_of b) S st
    → S < b.states
state_low {b} B q =
    path-state b (tables_of b) (premises B.spelled B.sound) B.sound.names (omega (arith, B.sound.limits.states_limit.low)) q

-- what a reduce reads of left sides: where their definitions begin, and which attributes they have
pub record LeftIn (b : Book) (definitions spans down up : List ℕ) : Type 0 where
  pub spans_in : SpansIn b definitions spans
  pub down_in : ListsIn b.inherited_owners down
  pub up_in : ListsIn b.synthesized_owners up

-- the tokens of a message
pub record Message (b : Book) (ks : List Token) : Type 0 where
  pub tokens : TokensOf b ks
  pub few : length ks ≤ MAX_TOKENS

module _ (b : Book) (ks : List Token) (states inherited synthesized starts rows : List ℕ) (top : Top) where
  -- the frames st under the state S, with the tokens z left, p of them shifted, and the rows rs written
  pub record Standing (st : List Frame) (S : ℕ) (z : List Token) (p : ℕ) (rs : List Row) : Type 0 where
    pub frames_in : FramesIn states inherited synthesized starts st
    pub state_is : get_or states (length st) 0 ≡ S
    pub rows_in : RowsIn rs rows
    pub left_is : z ≡ drop p ks
    pub depth_is : top.depth ≡ length st
    pub count_is : top.rows ≡ length rs
    pub position_is : top.position ≡ p
    pub depth_low : length st ≤ length starts
    pub count_low : length rs ≤ MAX_ROWS
    pub position_low : p ≤ length ks
    pub path : Path (tables_of b) S st

  pub data ConfigIn : Config → Type 0 where
    stands : {st : List Frame} {S p : ℕ} {z : List Token} {rs : List Row} → Standing st S z p rs → ConfigIn (config st S z p rs)

-- the top cell is set
abbrev pub CellIn : Book → List ℕ → Config → Type 0
CellIn b inherited (config st S z p rs) = cell (tables_of b) S (next z) st ≡ cell_value inherited (length st)

-- the frames, the state, the next token's kind and value, the rows, the action
abbrev pub frames_of : Config → List Frame
frames_of (config st S z p rs) = st

abbrev pub state_of : Config → ℕ
state_of (config st S z p rs) = S

abbrev pub kind_of : Config → ℕ
kind_of (config st S z p rs) = next z

abbrev pub first_value : List Token → ℕ
first_value [] = 0
first_value (k ∷ z) = k.value

abbrev pub value_of : Config → ℕ
value_of (config st S z p rs) = first_value z

abbrev pub rows_of : Config → List Row
rows_of (config st S z p rs) = rs

module _ (b : Book) where
  abbrev pub action_of : Config → Option Action
  action_of c = (tables_of b).act (state_of c) (kind_of c)

  -- a move goes on to a configuration that the arrays hold
  pub record GoesOn (ks : List Token) (c : Config) (states inherited synthesized starts rows : List ℕ) (top : Top) : Type 0 where
    pub then : Config
    pub moves : step b (tables_of b) c ≡ more then
    pub holds : ConfigIn b ks states inherited synthesized starts rows top then
