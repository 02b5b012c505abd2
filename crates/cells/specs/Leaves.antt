-- The words that leaves read: "A formula leaf names a stack, and with it an offset and an attribute" (01), over the stacks in arrays.
-- Assumes nothing.
use Rattle.std.specs.Prelude.{ℕ, ◌+◌, ◌-◌, ◌*◌, ◌<◌, ◌≤◌, List, length, take, drop, slice_index}
use Rattle.formulas.specs.declared.nodes.Stack.{Stack}
use Rattle.formulas.specs.declared.nodes.Stack.TheVariants.{Inherited, Synthesized}
use Rattle.formulas.specs.declared.nodes.Leaf.{Leaf}
use Rattle.formulas.specs.declared.nodes.Leaf.TheVariants.{Attribute, TokenValue}
use Rattle.cells.specs.Frames.{cell_value, record_value, token_word}

-- the two stacks have room for `height` symbols and the top cell
pub record Room (height : ℕ) (inherited synthesized : List ℕ) : Type 0 where
  pub cells_long : 16 * height + 16 ≤ length inherited
  pub records_long : 33 * height ≤ length synthesized

-- the number n is that of a cell or a record of the stack
abbrev pub Has : List ℕ → List ℕ → Stack → ℕ → Type 0
Has inherited synthesized Inherited n = 16 * n + 16 ≤ length inherited
Has inherited synthesized Synthesized n = 33 * n + 33 ≤ length synthesized

-- the number of its words
abbrev pub width : Stack → ℕ
width Inherited = 16
width Synthesized = 33

-- the words of a stack's cell or record, and one of them
abbrev pub part_of : Stack → List ℕ → List ℕ → ℕ → List ℕ
part_of Inherited inherited synthesized n = take 16 (drop (16 * n) inherited)
part_of Synthesized inherited synthesized n = take 33 (drop (33 * n) synthesized)

abbrev pub word_of : Stack → List ℕ → List ℕ → ℕ → ℕ → ℕ
word_of Inherited inherited synthesized n k = slice_index inherited (16 * n + k)
word_of Synthesized inherited synthesized n k = slice_index synthesized (33 * n + k)

-- a leaf that can be read on a stack of `height` symbols
abbrev pub Readable : ℕ → Leaf → Type 0
Readable height (Attribute Inherited offset K) = (offset ≤ height) × (K < 16)
Readable height (Attribute Synthesized offset K) = (offset < height) × (K < 32)
Readable height (TokenValue Inherited offset) = Unit {0}
Readable height (TokenValue Synthesized offset) = offset < height

-- its value; no inherited value is a token's
abbrev pub leaf_word : List ℕ → List ℕ → ℕ → Leaf → ℕ
leaf_word inherited synthesized height (Attribute Inherited offset K) = cell_value inherited (height - offset) K
leaf_word inherited synthesized height (Attribute Synthesized offset K) = record_value synthesized (height - 1 - offset) K
leaf_word inherited synthesized height (TokenValue Inherited offset) = 0
leaf_word inherited synthesized height (TokenValue Synthesized offset) = token_word synthesized (height - 1 - offset)
