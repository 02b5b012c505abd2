use native.Mathlib.Omega.{arith}
use Rattle.machine.specs.Setting.{top-asked, top-short, top_set}
use Rattle.machine.proofs.setting.set_top.Goals as goal

pub set_cell-requires : goal.set_cell-requires
set_cell-requires c = let (room, kind) = c.requires.room in
    let (b, states, starts, st, A, l, H, M) = c.requires.by_index in
    let T = c.planned-slot.ensures.plan b H l M in record { room = (room, omega (arith, T.slot_low, top-short A c.args.kind T.plan_in)); by_index = (b, _, top-asked A c.args.kind T.plan_in) }

pub returns-clause-cell : goal.returns-clause-cell
returns-clause-cell c = λ b states starts st A l H M.
    let T = c.planned-slot.ensures.plan b H l M in
    let asked = top-asked A c.args.kind T.plan_in in
    top_set A c.args.kind c.requires.room.0.cells_long T.plans_in (c.set_cell.ensures b _ asked)
