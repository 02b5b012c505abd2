-- The left side of a rule is pushed over the arrays, where the top cell is set: what that asks of them, and that it is the machine's
-- reduce. Assumes that the book is taken.
use Rattle.std.specs.Prelude.{ℕ, ◌+◌, ◌*◌, ◌-◌, ◌≤◌, ◌<◌, ◌≡◌, List, length, get_or}
use Rattle.std.proofs.Common.{◌∙◌, arith}
use Rattle.std.proofs.Math.Option.{some}
use Rattle.grammar.specs.Limits.{MAX_TOKENS}
use Rattle.grammar.specs.Data.Symbol.{right_of}
use Rattle.grammar.specs.Data.Book.{Book}
use Rattle.grammar.specs.Automaton.States.{reduce}
use Rattle.grammar.specs.Evaluator.Tree.{Token}
use Rattle.grammar.specs.Evaluator.Machine.{Config}
use Rattle.stack.specs.declared.top.Top.{Top}
use Rattle.stack.specs.Lists.{gathers}
use Rattle.stack.specs.NodeValues.{NodeAsked, NodeValues}
use Rattle.stack.specs.Pushes.{Stacks, Reducing, StartOf, NodePushed}
use Rattle.stack.specs.Reductions.{RuleReady, rule-ready, reduce-on}
use Rattle.stack.specs.Standing.{BookIn, LeftIn, ConfigIn, CellIn, action_of, GoesOn}

-- a configuration of at most 255 tokens with a reduce of rule P due, and room for its row and its left side
pub record LeftAsked (b : Book) (ks : List Token) (c : Config) (rules definitions table spans down up : List ℕ)
    (states inherited synthesized starts rows : List ℕ) (top : Top) (P : ℕ) : Type 0 where
  pub book_in : BookIn b rules definitions table
  pub left_in : LeftIn b definitions spans down up
  pub config_in : ConfigIn b ks states inherited synthesized starts rows top c
  pub cell_in : CellIn b inherited c
  pub action_is : action_of b c ≡ some (reduce P)
  pub few : length ks ≤ MAX_TOKENS
  pub rows_low : top.rows < 512
  pub room : top.depth < length starts + get_or rules (10 * P + 1) 0

module _ {b : Book} {ks : List Token} {c : Config} {rules definitions table spans down up states inherited synthesized starts rows : List ℕ} {top : Top}
    {P : ℕ} (A : LeftAsked b ks c rules definitions table spans down up states inherited synthesized starts rows top P) where
  pub left-ready : RuleReady A.book_in A.left_in P ks states starts top
  left-ready = rule-ready A.book_in A.left_in P A.config_in A.cell_in A.action_is

  -- with the rule's size and its left side, read from their words
  module _ {n owner : ℕ} (size_is : n ≡ get_or rules (10 * P + 1) 0) (owner_is : owner ≡ get_or rules (10 * P) 0) where
    same_size : n ≡ length (right_of b.rules P)
    same_size = size_is ∙ left-ready.size_is

    pub left-deep : n ≤ top.depth
    left-deep = omega (arith, same_size, left-ready.deep)

    pub left-room : top.depth - n < length starts
    left-room = omega (arith, left-deep, A.room)

    pub left-owner : owner < 32
    left-owner = omega (arith, left-ready.owner_low)

    pub left-state-there : get_or states (top.depth - n) 0 < b.states
    left-state-there = rw same_size left-ready.state_there

    pub left-asked : NodeAsked b definitions spans P n
    left-asked = rw size_is left-ready.asked

    pub left-reducing : Stacks states synthesized starts rows → length inherited ≡ 16 * length starts + 16
        → Reducing top n owner down inherited up synthesized starts
    left-reducing L cells = record {
      deep = left-deep;
      room = omega (arith, A.room);
      low = omega (arith, left-ready.depth_low, L.starts_long);
      rows_low = A.rows_low;
      down_in = gathers A.left_in.down_in left-owner (omega (arith, left-room, A.book_in.sound.limits.inherited_limit));
      up_in = gathers A.left_in.up_in left-owner (omega (arith, left-room, L.synthesized_long, A.book_in.sound.limits.synthesized_limit));
    }

    pub left-pushed : {target start : ℕ} {fresh states' synthesized' starts' rows' : List ℕ} {next : Top} → Stacks states synthesized starts rows
        → length inherited ≡ 16 * length starts + 16
        → NodePushed top target P n owner start fresh down inherited up states synthesized starts rows states' synthesized' starts' rows' next
        → StartOf starts (top.depth - n) n top.position start → NodeValues b P (top.depth - n) inherited synthesized fresh
        → target ≡ get_or table (64 * get_or states (top.depth - n) 0 + (32 + owner)) 0
        → GoesOn b ks c states' inherited synthesized' starts' rows' next
    left-pushed L cells push start_of_is fresh_in target_is =
        reduce-on A.book_in A.left_in P L cells (rw same_size at push) (owner_is ∙ left-ready.owner_is) (rw same_size at start_of_is)
        (rw same_size at fresh_in) (rw same_size at target_is) A.config_in A.cell_in A.action_is (omega (arith, A.room, same_size)) A.rows_low
