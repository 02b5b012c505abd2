-- What a push does to the arrays: a token, or a rule's left side in the place of its right side. Assumes nothing.
use Rattle.std.specs.Prelude.{ℕ, ◌+◌, ◌*◌, ◌-◌, ◌≤◌, ◌<◌, ◌≡◌, List, length, get_or, set, replicate}
use Rattle.std.proofs.Common.{arith}
use Rattle.grammar.specs.Limits.{MAX_STACK}
use Rattle.stack.specs.declared.top.Top.{Top}
use Rattle.stack.specs.Lists.{Gathers, gathered}
use Rattle.stack.specs.Page.{token_stored, node_stored}
use Rattle.stack.specs.Records.{Stored}

-- the arrays that a move changes, but for the cells: room for as many symbols as there are starts
pub record Stacks (states synthesized starts rows : List ℕ) : Type 0 where
  pub starts_long : length starts ≡ MAX_STACK
  pub states_long : length states ≡ length starts + 1
  pub synthesized_long : length synthesized ≡ 33 * length starts
  pub rows_long : length rows ≡ 5120

-- a token, over a stack of as many symbols as the top says
pub record TokenPushed (top : Top) (target kind value : ℕ) (states synthesized starts rows : List ℕ) (states' synthesized' starts' rows' : List ℕ) (next : Top)
    : Type 0 where
  pub states_are : states' ≡ set states (top.depth + 1) target
  pub record_is : Stored (33 * top.depth) (set (replicate 33 0) 0 value) synthesized 33 synthesized'
  pub starts-are : starts' ≡ set starts top.depth top.position
  pub rows_are : rows' ≡ token_stored top.rows kind top.position value rows
  pub depth_is : next.depth ≡ top.depth + 1
  pub count_is : next.rows ≡ top.rows + 1
  pub position_is : next.position ≡ top.position + 1

-- a rule and the number of its right symbols, its left side's attributes, and where the run goes
pub record Reducing (top : Top) (size owner : ℕ) (down inherited up synthesized starts : List ℕ) : Type 0 where
  pub deep : size ≤ top.depth
  pub room : top.depth < length starts + size
  pub low : top.depth ≤ MAX_STACK
  pub rows_low : top.rows < 512
  pub down_in : Gathers down owner inherited (16 * (top.depth - size))
  pub up_in : Gathers up owner synthesized (33 * (top.depth - size) + 1)

-- where a node of n children starts that stands over `below` symbols: an empty one at the position, any other where its first child does
pub record StartOf (starts : List ℕ) (below n position start : ℕ) : Type 0 where
  pub empty : n ≡ 0 → start ≡ position
  pub filled : 1 ≤ n → start ≡ get_or starts below 0

-- the left side of a rule, in the place of the top `size` symbols
pub record NodePushed (top : Top) (target rule size owner start : ℕ) (fresh down inherited up : List ℕ) (states synthesized starts rows : List ℕ)
    (states' synthesized' starts' rows' : List ℕ) (next : Top) : Type 0 where
  pub states_are : states' ≡ set states (top.depth - size + 1) target
  pub record_is : Stored (33 * (top.depth - size)) fresh synthesized 33 synthesized'
  pub starts-are : starts' ≡ set starts (top.depth - size) start
  pub rows_are : rows' ≡ node_stored top.rows rule start (gathered down owner inherited (16 * (top.depth - size)))
      (gathered up owner synthesized' (33 * (top.depth - size) + 1)) rows
  pub depth_is : next.depth ≡ top.depth - size + 1
  pub count_is : next.rows ≡ top.rows + 1
  pub position_is : next.position ≡ top.position

-- what is gathered stands in any source of the same length
pub gathers_same : {lists source other : List ℕ} {A from : ℕ} → length other ≡ length source → Gathers lists A source from → Gathers lists A other from
gathers_same e G = record { there = G.there; short = G.short; low = λ j l. omega (arith, G.low j l) }
