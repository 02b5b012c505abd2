-- The stack evaluator (01, "The stack evaluator", first paragraph), over the tables that a book's states give. It computes.
-- Assumes nothing.
use Rattle.std.specs.Prelude.{ℕ, zero, suc, List, [], ◌∷◌, ◌++◌, length}
use Rattle.std.proofs.Math.Decide.{dec_lt}
use Rattle.std.proofs.Math.Option.{Option, none, some}
use Rattle.grammar.specs.Limits.{MAX_ROWS, MAX_STACK}
use Rattle.grammar.specs.Data.Symbol.{Symbol, terminal, nonterminal, left_of, right_of}
use Rattle.grammar.specs.Data.Term.{eval}
use Rattle.grammar.specs.Data.Book.{Book}
use Rattle.grammar.specs.Formulas.Formula.{inherited, synthesized, attribute, token_value, Leaf, slot, Formula}
use Rattle.grammar.specs.Automaton.States.{Action, shift, accept, reduce}
use Rattle.grammar.specs.Evaluator.Tree.{Token, next}
use Rattle.grammar.specs.Evaluator.Decorated.{Values, no_values, Result, token, values, synthesized_of, token_value_of, synthesized_from}
use Rattle.grammar.specs.Evaluator.Rows.{Row, row_of_token, row_of_node}

pub record Tables : Type 0 where
  -- the action at a state and a terminal
  pub act : ℕ → ℕ → Option Action
  -- the target of a state's go line on a symbol
  pub go : ℕ → Symbol → Option ℕ
  -- in the partial state of a state and a terminal, the formula of an inherited attribute
  pub formula_at : ℕ → ℕ → ℕ → Option Formula

-- a symbol on the stack: the state below it, the inherited values of that state's cell, what the symbol hands up, its start.
-- A state's cell is set when a symbol is pushed over it, and never again.
pub data Frame : Type 0 where
  frame : ℕ → Values → Result → ℕ → Frame

-- the frames, the top first; the state; the tokens left; the number shifted; the rows written
pub data Config : Type 0 where
  config : List Frame → ℕ → List Token → ℕ → List Row → Config

pub data Answer : Type 0 where
  refused : ℕ → Answer
  accepted : List Row → Answer

pub data Step : Type 0 where
  more : Config → Step
  stop : Answer → Step

-- "Start: state 0, no symbols, no rows, first token next"
abbrev pub start : List Token → Config
start ks = config [] 0 ks 0 []

-- the inherited stack: the values n symbols below the top cell, whose values are i
unfoldable pub inherited_at : ℕ → Values → List Frame → Values
inherited_at zero i st = i
inherited_at (suc n) i [] = no_values
inherited_at (suc n) i (frame R j c p ∷ st) = inherited_at n j st

-- the synthesized stack: what the symbol n below the top one hands up
unfoldable pub result_at : ℕ → List Frame → Result
result_at n [] = token 0
result_at zero (frame R j c p ∷ st) = c
result_at (suc n) (frame R j c p ∷ st) = result_at n st

-- the value of a formula's leaf: its stack, the offset below the top, and there an attribute or a token's value;
-- the top cell is not yet set, and no inherited value is a token's
unfoldable pub leaf_value : List Frame → Leaf → ℕ
leaf_value st (slot inherited n (attribute K)) = inherited_at n no_values st K
leaf_value st (slot inherited n token_value) = 0
leaf_value st (slot synthesized n (attribute K)) = synthesized_of (result_at n st) K
leaf_value st (slot synthesized n token_value) = token_value_of (result_at n st)

unfoldable pub formula_value : List Frame → Option Formula → ℕ
formula_value st none = 0
formula_value st (some f) = eval f (leaf_value st)

-- "Set the top cell's inherited values by the partial state's formulas, 0 where there is none"
unfoldable pub cell : Tables → ℕ → ℕ → List Frame → Values
cell T S a st K = formula_value st (T.formula_at S a K)

-- n symbols off the stack: the state that is then on top, the values of its cell, the start of the last symbol popped, the frames below,
-- and what the symbols handed up, the lowest first
pub data Popped : Type 0 where
  popped : ℕ → Values → ℕ → List Frame → List Result → Popped

-- from the state S with the cell i and the start p, where cs was popped before
unfoldable pub pop : ℕ → ℕ → Values → ℕ → List Frame → List Result → Popped
pop zero S i p st cs = popped S i p st cs
pop (suc n) S i p [] cs = popped S i p [] cs
pop (suc n) S i p (frame R j c q ∷ st) cs = pop n R j q st (c ∷ cs)

-- the step s if the limit's test holds, else the refusal n
unfoldable pub within : {A : Type 0} → Dec A → ℕ → Step → Step
within (yes h) n s = s
within (no h) n s = stop (refused n)

-- "If 512 rows stand: 16"
unfoldable pub room_for_row : List Row → Step → Step
room_for_row rs s = within (dec_lt (length rs) MAX_ROWS) 16 s

-- "If it is a shift or an empty rule and 128 symbols stand: 17": the first for a shift, the second for a rule with the right side γ
unfoldable pub room_for_symbol : List Frame → Step → Step
room_for_symbol st s = within (dec_lt (length st) MAX_STACK) 17 s

unfoldable pub room_for_rule : List Symbol → List Frame → Step → Step
room_for_rule [] st s = room_for_symbol st s
room_for_rule (X ∷ γ) st s = s

-- "follow go"; a taken book has the line
unfoldable pub arrive : Option ℕ → List Frame → List Token → ℕ → List Row → Step
arrive none st z p rs = stop (refused 15)
arrive (some S) st z p rs = more (config st S z p rs)

module _ (b : Book) (T : Tables) where
  -- "Shift: push the token with its value", "write one row"
  unfoldable pub shift_token : Token → List Frame → ℕ → List Token → ℕ → List Row → Step
  shift_token k st S z p rs =
      arrive (T.go S (terminal k.kind)) (frame S (cell T S k.kind st) (token k.value) p ∷ st) z (suc p) (rs ++ (row_of_token k p ∷ []))

  -- "Reduce: work out the left side's synthesized values, pop, push it, follow go", "write one row"
  unfoldable pub push_left : ℕ → Popped → List Token → ℕ → List Row → Step
  push_left P (popped S i q st cs) z p rs =
      let s = synthesized_from b P i cs in
      arrive (T.go S (nonterminal (left_of b.rules P))) (frame S i (values s) q ∷ st) z p (rs ++ (row_of_node b P q i s ∷ []))

  -- "None: 15. Accept: done. If 512 rows stand: 16. If it is a shift or an empty rule and 128 symbols stand: 17. Set the top cell's inherited values";
  -- t0 is in no rule, so it is not shifted. A reduce pops from the cell just set, which an empty rule's left side takes over.
  unfoldable pub perform : Option Action → List Frame → ℕ → List Token → ℕ → List Row → Step
  perform none st S z p rs = stop (refused 15)
  perform (some accept) st S z p rs = stop (accepted rs)
  perform (some shift) st S [] p rs = stop (refused 15)
  perform (some shift) st S (k ∷ z) p rs = room_for_row rs (room_for_symbol st (shift_token k st S z p rs))
  perform (some (reduce P)) st S z p rs =
      let γ = right_of b.rules P in
      room_for_row rs (room_for_rule γ st (push_left P (pop (length γ) S (cell T S (next z) st) p st []) z p rs))

  -- "A move: find the action"
  unfoldable pub step : Config → Step
  step (config st S z p rs) = perform (T.act S (next z)) st S z p rs

  -- n moves more
  unfoldable pub run : ℕ → Step → Option Answer
  run zero (stop a) = some a
  run zero (more c) = none
  run (suc n) (stop a) = some a
  run (suc n) (more c) = run n (step c)

  -- every move but the last writes one of at most 512 rows, so 513 moves are enough: there is always an answer
  unfoldable pub evaluate : List Token → Answer
  evaluate ks = elim (run (suc MAX_ROWS) (more (start ks))) [ none ↦ refused 16 | some a ↦ a ]

-- opens every definition of this module
unfoldable pub opens : Unit {0}
unfolding dec_lt inherited_at result_at leaf_value formula_value cell pop within room_for_row room_for_symbol room_for_rule arrive shift_token push_left
    perform step run evaluate
opens = tt
