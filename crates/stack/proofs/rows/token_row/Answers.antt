use Prim.Native.Nat.{ℕ, ◌+◌, ◌*◌}
use mathlib.Core.Path.{ap}
use mathlib.Core.List.{List}
use lib.ListN.{set}
use native.Mathlib.Omega.{arith}
use Rattle.cells.specs.CellsLaws.{cleared-filled}
use Rattle.stack.specs.Page.{token_stored}
use Rattle.stack.proofs.rows.token_row.Goals as goal

pub returns : goal.returns
unfolding token_stored
returns c = let a = c.args in
    ap (λ (l : List ℕ). set (set (set l (10 * a.row) (64 + a.kind)) (10 * a.row + 1) a.start) (10 * a.row + 6) a.value)
    (cleared-filled (10 * a.row) 10 a.rows.now (omega (arith, c.requires.0, c.requires.1)) (c.fill.ensures.after (λ y e. e)))
