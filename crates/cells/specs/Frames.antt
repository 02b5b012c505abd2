-- The machine's stacks in arrays (01, "The stack evaluator"): a cell of 16 words for each height, the inherited stack; a record of 33 words for each
-- symbol, the synthesized stack, whose first word is a token's value; a state for each height; a start for each symbol. Symbol n is the one
-- above height n. Assumes nothing.
use Rattle.std.specs.Prelude.{◌≡◌, ℕ, ◌+◌, ◌-◌, ◌*◌, ◌≤◌, true, false, List, [], ◌∷◌, length, nat_lt, slice_index, slice_index_or}
use Rattle.grammar.specs.Evaluator.Decorated.{Values, Result, child_at, synthesized_of, token_value_of}
use Rattle.grammar.specs.Evaluator.Machine.{Frame, frame, Popped, popped}

-- the inherited values of the cell of height n
unfoldable pub cell_value : List ℕ → ℕ → Values
cell_value inherited n K = elim (nat_lt K 16) [ true ↦ slice_index_or inherited (16 * n + K) 0 | false ↦ 0 ]

-- the synthesized values of symbol n
unfoldable pub record_value : List ℕ → ℕ → Values
record_value synthesized n K = elim (nat_lt K 32) [ true ↦ slice_index_or synthesized (33 * n + 1 + K) 0 | false ↦ 0 ]

-- the token's value of symbol n
abbrev pub token_word : List ℕ → ℕ → ℕ
token_word synthesized n = slice_index synthesized (33 * n)

-- the record of symbol n is what c hands up
pub record ResultIn (c : Result) (synthesized : List ℕ) (n : ℕ) : Type 0 where
  pub value_is : token_value_of c ≡ token_word synthesized n
  pub attributes_are : (K : ℕ) → synthesized_of c K ≡ record_value synthesized n K

module _ (states inherited synthesized starts : List ℕ) where
  -- the frame of symbol n
  pub record FrameIn (R : ℕ) (i : Values) (c : Result) (p n : ℕ) : Type 0 where
    pub state_is : slice_index_or states n 0 ≡ R
    pub cell_is : i ≡ cell_value inherited n
    pub result_is : ResultIn c synthesized n
    pub start_is : slice_index_or starts n 0 ≡ p

  -- the frames, the top first
  pub data FramesIn : List Frame → Type 0 where
    no_frames : FramesIn []
    a_frame : {R p : ℕ} {i : Values} {c : Result} {st : List Frame} → FrameIn R i c p (length st) → FramesIn st → FramesIn (frame R i c p ∷ st)

  -- what stands where n symbols were popped down to height h, and what they handed up; p was the start before
  pub record PoppedIn (h n p : ℕ) (x : Popped) : Type 0 where
    pub state : ℕ
    pub cell : Values
    pub start : ℕ
    pub below : List Frame
    pub results : List Result
    pub popped_is : x ≡ popped state cell start below results
    pub state_is : slice_index_or states h 0 ≡ state
    pub cell_is : cell ≡ cell_value inherited h
    pub start_same : n ≡ 0 → start ≡ p
    pub start_is : 1 ≤ n → slice_index starts h ≡ start
    pub below_in : FramesIn below
    pub below_long : length below ≡ h
    pub results_long : length results ≡ n
    pub result_in : (J : ℕ) → 1 ≤ J → J ≤ n → ResultIn (child_at results J) synthesized (h + J - 1)

-- opens every definition of this module
unfoldable pub opens : Unit {0}
unfolding cell_value record_value
opens = tt
