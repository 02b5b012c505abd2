use Prim.Native.Nat.{◌+◌, ◌<◌}
use mathlib.Core.Path.{◌≡◌}
use native.Mathlib.Omega.{arith}
use lib.ListN.{get_or}
use Rattle.stack.specs.Spans.{line_count}
use Rattle.stack.specs.LeftLines.{line_in, lines-few, left-none, left-turn, left_end}
use Rattle.stack.specs.NodeValues.{LineOf}
use Rattle.stack.proofs.records.node_values.Goals as goal
use Rattle.stack.proofs.records.node_values.Goals.{In-loop-i}

turn : (c : In-loop-i) → c.loop-i.i < line_count c.args.spans.now c.args.rule
turn c = omega (arith, c.loop-i-test.true, c.word.ensures, c.word-first.ensures)

room : (c : In-loop-i) → c.loop-i.i < 4
room c = omega (arith, (turn c), lines-few c.requires.node_asked.1)

line_is : (c : In-loop-i) → c.word-first.result + c.loop-i.i ≡ get_or c.args.spans.now c.args.rule 0 + c.loop-i.i
line_is c = omega (arith, c.word-first.ensures)

pub loop-i-init : goal.loop-i-init
loop-i-init c = λ b A. left-none A _

pub value-requires : goal.value-requires
value-requires c =
    let here = (goal.at.value-requires c).In-loop-i in
    let line-there : LineOf c.requires.node_asked.0 c.args.definitions.now c.args.rule c.args.size (c.word-first.result + c.loop-i.i) = rw (line_is here) (line_in c.requires.node_asked.1 c.loop-i.i (turn here)) in
    record { room = (c.requires.room.0, c.requires.room.1); asked = (_, (line-there).asked) }

pub bounds-values-i : goal.bounds-values-i
bounds-values-i c =
    omega (arith, (room (goal.at.bounds-values-i c).In-loop-i), c.loop-i.auto.values, c.requires.room.2)

pub loop-i-preserved : goal.loop-i-preserved
loop-i-preserved c =
    let here = (goal.at.loop-i-preserved c).In-loop-i in
    let at = c.loop-i in
    λ b A.
    left-turn A at.values (turn here) (omega (arith, (room here), at.auto.values, c.requires.room.2)) (line_is here) (at.invariant b A)
    c.value.ensures

pub returns : goal.returns
returns c = let end : c.loop-i.i ≡ line_count c.args.spans.now c.args.rule =
    omega (arith, c.loop-i.auto.i-end, c.loop-i-test.false, c.word.ensures, c.word-first.ensures) in
    λ b A. left_end A c.loop-i.values (rw end at (c.loop-i.invariant b A))
