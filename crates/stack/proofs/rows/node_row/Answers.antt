use Prim.Native.Nat.{ℕ, ◌+◌, ◌*◌}
use mathlib.Core.Path.{◌≡◌, ap, ◌∙◌}
use mathlib.Core.List.{List}
use lib.ListN.{set}
use Rattle.book.specs.Layout.{write_at}
use Rattle.cells.specs.Cells.{cleared}
use Rattle.cells.specs.CellsLaws.{cleared-filled}
use native.Mathlib.Omega.{arith}
use Rattle.stack.specs.Lists.{gathered}
use Rattle.stack.specs.Page.{node-parts}
use Rattle.stack.proofs.rows.node_row.Goals as goal

pub returns : goal.returns
returns c =
    let values : List ℕ = gathered c.args.down.now c.args.owner c.args.cells.now (16 * c.args.height) in
    let down : c.gather.new.rows
    ≡ write_at (10 * c.args.row + 2) values
    (set (set (cleared (10 * c.args.row) 10 c.args.rows.now) (10 * c.args.row) c.args.rule) (10 * c.args.row + 1) c.args.start) = c.gather.ensures
    ∙ ap (λ (l : List ℕ). write_at (10 * c.args.row + 2) values (set (set l (10 * c.args.row) c.args.rule) (10 * c.args.row + 1) c.args.start))
    (cleared-filled (10 * c.args.row) 10 c.args.rows.now (omega (arith, c.requires.0, c.requires.1)) (c.fill.ensures.after (λ y e. e))) in
    node-parts _ _ _ _ _ (down) _ c.gather-2.ensures
