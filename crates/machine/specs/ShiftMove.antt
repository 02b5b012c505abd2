-- A shift over the arrays: what it asks of them, and that what it does is what the machine does. Assumes that the book is taken.
use Rattle.std.specs.Prelude.{ℕ, ◌+◌, ◌*◌, ◌≤◌, ◌<◌, ◌≡◌, ◌≢◌, List, [], ◌∷◌, length, get_or}
use Rattle.std.proofs.Common.{ap, arith, length-drop}
use Rattle.std.proofs.Math.Option.{some}
use Rattle.grammar.specs.Limits.{MAX_TOKENS, MAX_STACK}
use Rattle.grammar.specs.Data.Book.{Book}
use Rattle.grammar.specs.Automaton.States.{shift}
use Rattle.grammar.specs.Evaluator.Tree.{Token}
use Rattle.grammar.specs.Evaluator.Machine.{Config}
use Rattle.stack.specs.declared.top.Top.{Top}
use Rattle.stack.specs.Goes.{shift-goes}
use Rattle.machine.specs.Moving.{Poised}
use Rattle.machine.specs.MovingLaws.{room-left}
use Rattle.stack.specs.Pushes.{Stacks, TokenPushed}
use Rattle.machine.specs.Shifting.{shift-on}
use Rattle.stack.specs.Standing.{BookIn, state_low, ConfigIn, stands, state_of, kind_of, value_of, action_of, GoesOn}

-- a shift is due, of a token
pub record Shifts (b : Book) (c : Config) (state kind value : ℕ) : Type 0 where
  pub action_is : action_of b c ≡ some shift
  pub state_is : state ≡ state_of c
  pub kind_is : kind ≡ kind_of c
  pub value_is : value ≡ value_of c

-- the numbers of a shift are small
pub record ShiftLow (b : Book) (starts : List ℕ) (top : Top) (state kind : ℕ) : Type 0 where
  pub state_there : state < b.states
  pub state_low : state < 128
  pub kind_low : kind < 32
  pub position_low : top.position < 255
  pub depth_low : top.depth ≤ length starts

low_of : {b : Book} {ks : List Token} {c : Config} {rules definitions table states inherited synthesized starts rows : List ℕ} {top : Top} {state kind : ℕ}
    → BookIn b rules definitions table → length ks ≤ MAX_TOKENS → ConfigIn b ks states inherited synthesized starts rows top c → action_of b c ≡ some shift
    → state ≡ state_of c → kind ≡ kind_of c → ShiftLow b starts top state kind
low_of B few (stands {S = S} {z = []} C) e s k = let g = shift-goes B.spelled B.sound S 0 e in absurd (omega (arith, g.low))
low_of {b} {ks} B few (stands {S = S} {p = p} {z = x ∷ z} C) e s k =
    let g = shift-goes B.spelled B.sound S x.kind e in
    let there : S < b.states = state_low B C.path in
    record {
      state_there = omega arith;
      state_low = omega (arith, B.sound.limits.states_limit.high);
      kind_low = omega (arith, g.high, B.sound.limits.terminals_limit.high);
      position_low = omega (arith, C.position_is, ap length C.left_is, length-drop p ks);
      depth_low = omega (arith, C.depth_is, C.depth_low);
    }

module _ {b : Book} {ks : List Token} {c : Config} {rules definitions table states inherited synthesized starts rows : List ℕ} {top : Top}
    {state kind value : ℕ} (B : BookIn b rules definitions table) (H : Poised b ks c states inherited synthesized starts rows top)
    (X : Shifts b c state kind value) where
  pub shift-low : ShiftLow b starts top state kind
  shift-low = low_of B H.message.few H.config_in X.action_is X.state_is X.kind_is

  pub shift-told : {states' synthesized' starts' rows' : List ℕ} {target : ℕ} {next : Top} → Stacks states synthesized starts rows → top.rows ≢ 512
      → top.depth ≢ MAX_STACK → TokenPushed top target kind value states synthesized starts rows states' synthesized' starts' rows' next
      → target ≡ get_or table (64 * state + kind) 0 → GoesOn b ks c states' inherited synthesized' starts' rows' next
  shift-told L n m push t =
      shift-on B L push H.config_in H.cell_in X.action_is X.state_is X.kind_is X.value_is
      (omega (arith, shift-low.depth_low, L.starts_long)) (room-left B H.config_in n) t
