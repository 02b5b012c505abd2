-- What a leaf of a definition is on the stack, and what the top symbols hand up; the laws of chains on it stand in proofs/Evaluator/Chains.antt.
-- Assumes nothing.
use Prim.Native.Nat.{ℕ, ◌-◌, ◌≤◌}
use Rattle.std.specs.Prelude.{◌≡◌, List}
use Rattle.grammar.specs.Data.Book.{Place, own, at, val}
use Rattle.grammar.specs.Evaluator.Decorated.{Values, Result, child_at, synthesized_of, token_value_of}
use Rattle.grammar.specs.Evaluator.Machine.{Frame, result_at}

-- what a definition's leaf is on the stack where the dot is D: own in i, at J and val J in the symbols below the top
unfoldable pub stack_value : ℕ → Values → List Frame → Place → ℕ
stack_value D i st (own K) = i K
stack_value D i st (at J K) = synthesized_of (result_at (D - J) st) K
stack_value D i st (val J) = token_value_of (result_at (D - J) st)

-- the top D symbols hand up the first D of cs
abbrev pub OnTop : ℕ → List Frame → List Result → Type 0
OnTop D st cs = (I : ℕ) → 1 ≤ I → I ≤ D → result_at (D - I) st ≡ child_at cs I
