-- A refusal that no further input changes; which there are stands in proofs/Settled.antt.
-- Assumes nothing.
use Rattle.std.specs.Prelude.{ℕ, ◌≡◌}
use mathlib.Core.List.{List}
use Rattle.console.specs.Desk.{Input, all_bytes, refused, answer_to}

-- whatever else is read, the answer is n
pub record Settled (n : ℕ) (i : Input) : Type 0 where
  pub always : (bs : List ℕ) → answer_to (all_bytes i bs) ≡ refused n
