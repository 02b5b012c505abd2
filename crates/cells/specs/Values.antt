-- The value of a definition over the stacks in arrays: its leaves stand in the cell and in the records from a height on, which is as many symbols below
-- the top as the dot says. Assumes nothing.
use Rattle.std.specs.Prelude.{ℕ, ◌+◌, ◌-◌, ◌<◌, ◌≤◌, List, slice_index}
use Rattle.grammar.specs.Data.Term.{apply, choose, Leaves}
use Rattle.grammar.specs.Data.Postfix.{Step, push, load, operate, select}
use Rattle.grammar.specs.Data.Book.{Place, own, at, val, Expr}
use Rattle.formulas.specs.Steps.{ExpressionIn}
use Rattle.cells.specs.Frames.{cell_value, record_value, token_word}

-- what a leaf reads where the rule's first right symbol stands above height `base`
abbrev pub place_in : ℕ → List ℕ → List ℕ → Place → ℕ
place_in base inherited synthesized (own K) = cell_value inherited base K
place_in base inherited synthesized (at J K) = record_value synthesized (base + J - 1) K
place_in base inherited synthesized (val J) = token_word synthesized (base + J - 1)

-- the leaves of a definition that reads the first `dot` right symbols
abbrev pub MayRead : ℕ → Place → Type 0
MayRead dot (own K) = K < 16
MayRead dot (at J K) = (1 ≤ J) × (J ≤ dot) × (K < 32)
MayRead dot (val J) = (1 ≤ J) × (J ≤ dot)

-- the expression e stands in a line and reads the first `dot` right symbols
pub record Asked (definitions : List ℕ) (line dot : ℕ) (e : Expr) : Type 0 where
  pub stands : ExpressionIn e definitions line
  pub reads : Leaves (MayRead dot) e

-- what a step puts on a stack of `top` words, where the leaves have the values ρ
abbrev pub step_value : (Place → ℕ) → List ℕ → ℕ → Step Place → ℕ
step_value ρ stack top (push n) = n
step_value ρ stack top (load a) = ρ a
step_value ρ stack top (operate o) = apply o (slice_index stack (top - 2)) (slice_index stack (top - 1))
step_value ρ stack top select = choose (slice_index stack (top - 3)) (slice_index stack (top - 2)) (slice_index stack (top - 1))
