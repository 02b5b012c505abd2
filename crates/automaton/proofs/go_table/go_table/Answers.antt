use Prim.Native.Nat.{◌*◌, ◌-◌, ◌<◌}
use native.Mathlib.Omega.{arith}
use lib.ListN.{get_or}
use Rattle.automaton.specs.GoTable.{LineLow, line_low, line-state, filled_none, filled_more, filled-all}
use Rattle.automaton.proofs.go_table.go_table.Goals as goal
use Rattle.automaton.proofs.go_table.go_table.Goals.{In-loop-i}

-- the words of the line that is put in
low : (c : In-loop-i) → LineLow c.args.goes.now (c.loop-i.i - 1)
low c = line_low c.requires.1.1 (c.loop-i.i - 1) (omega (arith, c.loop-i.invariant.within))

pub loop-i-init : goal.loop-i-init
loop-i-init c = filled_none c.args.goes.now c.args.count c.requires.0

pub overflow_cast-table : goal.overflow_cast-table
overflow_cast-table c =
    omega (arith, (low (goal.at.overflow_cast-table c).In-loop-i).target_low)

pub bounds-table-place : goal.bounds-table-place
bounds-table-place c =
    let there : get_or c.args.goes.now (3 * (c.loop-i.i - 1)) 0
    < c.args.states = line-state c.requires.1.1 (c.loop-i.i - 1) (omega (arith, c.loop-i.invariant.within)) in
    omega (arith, (low (goal.at.bounds-table-place c).In-loop-i), there, c.loop-i.invariant.long)

pub loop-i-preserved : goal.loop-i-preserved
loop-i-preserved c =
    rw (c.word.ensures, c.word-in-loop-i.ensures, c.word-in-loop-i-2.ensures)
    (filled_more c.loop-i.invariant c.loop-i-test.true)

pub returns : goal.returns
returns c = filled-all c.loop-i.invariant (omega arith)
