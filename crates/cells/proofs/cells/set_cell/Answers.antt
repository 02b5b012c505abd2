use Rattle.std.proofs.Common.{◌*◌, ap, ◌∙◌}
use Rattle.cells.specs.Cells.{lines_set}
use Rattle.cells.specs.CellsLaws.{cleared-filled}
use Rattle.cells.proofs.cells.set_cell.Goals as goal

pub returns : goal.returns
returns c = λ b lines A.
    c.set_lines.ensures b lines A
    ∙ ap (lines_set b c.args.synthesized.now c.args.height lines)
    (cleared-filled (16 * c.args.height) 16 c.args.inherited.now c.requires.room.0.cells_long (c.fill.ensures.after (λ y e. e)))
