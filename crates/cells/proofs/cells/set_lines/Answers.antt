use Rattle.std.proofs.Common.{ℕ, ap, ◌∙◌, arith, ◌<◌, length, length-take, length-drop}
use Rattle.cells.specs.Cells.{line_set}
use Rattle.cells.specs.CellsLaws.{setting-end, setting-turn, planned-line}
use Rattle.cells.proofs.cells.set_lines.Goals as goal

pub loop-line-preserved : goal.loop-line-preserved
loop-line-preserved c = λ b lines A.
    let i : ℕ = c.loop-line.line-index in
    let there : i < c.args.count = omega (arith, c.loop-line-test.true, length-take {A = ℕ}) in
    let line = planned-line A i there in
    let low : i < length lines = omega (arith, A.row_is.count_is) in
    setting-turn (c.loop-line.invariant b lines A) low
    (c.set_attribute.ensures b (rw line (A.line_asked i low)) ∙ ap (λ d. line_set b c.args.synthesized.now c.args.height d c.loop-line.inherited) line)

pub returns : goal.returns
returns c = λ b lines A.
    setting-end (c.loop-line.invariant b lines A)
    (omega (arith, c.loop-line-test.false, A.row_is.count_is, c.requires.room.1, length-take {A = ℕ}, length-drop {A = ℕ}))
