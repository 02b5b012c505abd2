use Prim.Native.Nat.{◌*◌, ◌<◌}
use native.Mathlib.Omega.{arith}
use lib.ListN.{get_or}
use Rattle.stack.specs.Lists.{Listable, ListsBelow, lists-none, turn-owner, turn-count, turn-listed, lists-done}
use Rattle.stack.proofs.lists.fill_lists.Goals as goal
use Rattle.stack.proofs.lists.fill_lists.Goals.{In-loop-i}

held : (c : In-loop-i) → Listable c.requires.0.0 c.requires.0.1 c.args.owners.now c.args.count
held c = c.requires.0.2

known : (c : In-loop-i) → ListsBelow c.requires.0.1 c.loop-i.i c.loop-i.lists
known c = c.loop-i.invariant _ _ (held c)

room : (c : In-loop-i) → get_or c.loop-i.lists (5 * get_or c.args.owners.now c.loop-i.i 0) 0 < 4
room c = turn-count (held c) (known c) c.loop-i-test.true

pub loop-i-init : goal.loop-i-init
loop-i-init c = λ room os O. lists-none c.requires.1

pub bounds-lists-head-in-loop-i : goal.bounds-lists-head-in-loop-i
bounds-lists-head-in-loop-i c =
    let here = (goal.at.bounds-lists-head-in-loop-i c).In-loop-i in
    let owner : get_or c.args.owners.now c.loop-i.i 0 < 32 = turn-owner (held here) (known here) c.loop-i-test.true in
    omega (arith, owner, (room here), (known here).long)

pub overflow_add-lists-in-loop-i-2 : goal.overflow_add-lists-in-loop-i-2
overflow_add-lists-in-loop-i-2 c =
    omega (arith, (room (goal.at.overflow_add-lists-in-loop-i-2 c).In-loop-i))

pub loop-i-preserved : goal.loop-i-preserved
loop-i-preserved c = λ room os O. turn-listed O (c.loop-i.invariant room os O) c.loop-i-test.true

pub returns : goal.returns
returns c = λ room os O. lists-done O (c.loop-i.invariant room os O) (omega (arith, c.loop-i.auto.i-end, c.loop-i-test.false))
