-- A reduce over the arrays: what it asks of them, and that what it does is what the machine does. Assumes that the book is taken.
use Rattle.std.specs.Prelude.{ℕ, ◌+◌, ◌*◌, ◌-◌, ◌≤◌, ◌<◌, ◌≡◌, ◌≢◌, List, length, get_or}
use Rattle.std.proofs.Common.{◌∙◌, arith}
use Rattle.std.proofs.Math.Option.{some}
use Rattle.grammar.specs.Limits.{MAX_STACK}
use Rattle.grammar.specs.Data.Symbol.{right_of}
use Rattle.grammar.specs.Data.Book.{Book}
use Rattle.grammar.specs.Automaton.States.{reduce}
use Rattle.grammar.specs.Evaluator.Tree.{Token}
use Rattle.grammar.specs.Evaluator.Machine.{Config, refused, stop, step}
use Rattle.grammar.proofs.Evaluator.TakenPremises.{premises}
use Rattle.grammar.specs.Engine.{tables_of}
use Rattle.stack.specs.declared.top.Top.{Top}
use Rattle.stack.specs.Action.{reduced}
use Rattle.stack.specs.LeftMove.{LeftAsked}
use Rattle.machine.specs.Moving.{Poised}
use Rattle.machine.specs.MovingLaws.{reduce-symbols, room-left}
use Rattle.stack.specs.Path.{deep}
use Rattle.stack.specs.Standing.{BookIn, LeftIn, ConfigIn, stands, state_of, kind_of, action_of}

-- a reduce of rule P is due
pub record Reduces (b : Book) (c : Config) (P : ℕ) : Type 0 where
  pub action_is : action_of b c ≡ some (reduce P)

-- its numbers are small
pub record ReduceLow (b : Book) (starts : List ℕ) (top : Top) (P : ℕ) : Type 0 where
  pub rule_low : P < 64
  pub rule_there : P < length b.rules
  pub deep : length (right_of b.rules P) ≤ top.depth
  pub depth_low : top.depth ≤ length starts

reduce-low-of : {b : Book} {ks : List Token} {c : Config} {rules definitions table states inherited synthesized starts rows : List ℕ} {top : Top} {P : ℕ}
    → BookIn b rules definitions table → ConfigIn b ks states inherited synthesized starts rows top c → action_of b c ≡ some (reduce P)
    → ReduceLow b starts top P
reduce-low-of {b} {P = P} B (stands {S = S} C) e =
    let x = reduced B.spelled B.sound S _ P e in
    record {
      rule_low = omega (arith, x.there, B.sound.limits.rules_limit.high);
      rule_there = x.there;
      deep = omega (arith, deep b (tables_of b) (premises B.spelled B.sound) C.path (length (right_of b.rules P)) x.complete, C.depth_is);
      depth_low = omega (arith, C.depth_is, C.depth_low);
    }

module _ {b : Book} {ks : List Token} {c : Config} {rules definitions table states inherited synthesized starts rows : List ℕ} {top : Top} {P : ℕ}
    (B : BookIn b rules definitions table) (H : Poised b ks c states inherited synthesized starts rows top) (X : Reduces b c P) where
  pub reduce-low : ReduceLow b starts top P
  reduce-low = reduce-low-of B H.config_in X.action_is

  -- with the rule's size, read from its word
  module _ {n : ℕ} (size_is : n ≡ get_or rules (10 * P + 1) 0) where
    same_size : n ≡ length (right_of b.rules P)
    same_size = size_is ∙ B.rules_in.size_is P (reduced B.spelled B.sound (state_of c) (kind_of c) P X.action_is).there

    pub reduce-deep : n ≤ top.depth
    reduce-deep = omega (arith, same_size, reduce-low.deep)

    -- no symbol is left
    pub reduce-full : length starts ≡ MAX_STACK → top.rows ≢ 512 → top.depth - n ≡ MAX_STACK → step b (tables_of b) c ≡ stop (refused 17)
    reduce-full full m e =
        reduce-symbols B P H.config_in X.action_is m (omega (arith, same_size, reduce-deep, reduce-low.depth_low))
        (omega (arith, reduce-low.depth_low))

    pub reduce-left : {spans down up : List ℕ} → LeftIn b definitions spans down up → length starts ≡ MAX_STACK → top.rows ≢ 512 → top.depth - n ≢ MAX_STACK
        → LeftAsked b ks c rules definitions table spans down up states inherited synthesized starts rows top P
    reduce-left F full m e = record {
      book_in = B;
      left_in = F;
      config_in = H.config_in;
      cell_in = H.cell_in;
      action_is = X.action_is;
      few = H.message.few;
      rows_low = room-left B H.config_in m;
      room = omega (arith, reduce-deep, reduce-low.depth_low);
    }
