use Prim.Native.Nat.{◌+◌, ◌*◌, ◌-◌, ◌≤◌, ◌<◌}
use mathlib.Core.Path.{refl, ap}
use native.Mathlib.Omega.{arith}
use lib.ListN.{length, get_or}
use Rattle.stack.specs.LeftLines.{left-putting}
use Rattle.stack.specs.LeftMove.{left-ready, left-deep, left-room, left-owner, left-state-there, left-asked, left-reducing, left-pushed}
use Rattle.stack.specs.Programs.{RoomOver, room-over}
use Rattle.stack.proofs.left.put_left.Goals as goal
use Rattle.stack.proofs.left.put_left.Goals.{After-word-size, After-word, Start}

rooms : (c : Start) → RoomOver c.args.stacks.now c.args.rows.now
rooms c = room-over _ (omega arith) (omega arith) (omega arith) (omega arith) c.requires.rows_long

rule_place : (c : Start) → 10 * c.args.rule + 10 ≤ length c.args.program.now.rules.now
rule_place c = (left-ready c.requires.left_asked.3).rule_place

deep : (c : After-word-size) → c.word-size.result ≤ c.args.top.depth
deep c = left-deep c.requires.left_asked.3 c.word-size.ensures c.word-owner.ensures

pub word-owner-requires : goal.word-owner-requires
word-owner-requires c =
    omega (arith, (rule_place (goal.at.word-owner-requires c).Start))

pub word-size-requires : goal.word-size-requires
word-size-requires c =
    omega (arith, (rule_place (goal.at.word-size-requires c).Start))

pub overflow_sub-below : goal.overflow_sub-below
overflow_sub-below c =
    omega (arith, (deep (goal.at.overflow_sub-below c).After-word-size))

pub overflow_cast-size : goal.overflow_cast-size
overflow_cast-size c = omega (arith, deep (goal.at.overflow_cast-size c).After-word-size, (left-ready c.requires.left_asked.3).depth_low)

pub node_values-requires : goal.node_values-requires
node_values-requires c =
    let room : c.args.top.depth - c.word-size.result < length c.args.stacks.now.starts = left-room c.requires.left_asked.3 c.word-size.ensures c.word-owner.ensures in
    let A = c.requires.left_asked.3 in
    let R = rooms (goal.at.node_values-requires c).Start in record {
      room = (
        record {
          cells_long = omega (arith, R.1, (left-ready A).depth_low);
          records_long = omega (arith, R.0.synthesized_long, (left-ready A).depth_low);
        },
        (deep (goal.at.node_values-requires c).After-word-size),
        refl,
      );
      node_asked = (c.requires.left_asked.0, left-asked A c.word-size.ensures c.word-owner.ensures);
    }

pub overflow_cast-top : goal.overflow_cast-top
overflow_cast-top c = omega (arith, (left-ready c.requires.left_asked.3).position_low, c.requires.left_asked.3.few)

owner : (c : After-word) → c.word-owner.result < 32
owner c = left-owner c.requires.left_asked.3 c.word-size.ensures c.word-owner.ensures

state : (c : After-word) → c.word.result < 128
state c =
    let A = c.requires.left_asked.3 in
    omega (arith, left-state-there A c.word-size.ensures c.word-owner.ensures, c.word.ensures, A.book_in.sound.limits.states_limit.high)

pub overflow_mul-target : goal.overflow_mul-target
overflow_mul-target c = omega (arith, state (goal.at.overflow_mul-target c).After-word)

pub overflow_add-target : goal.overflow_add-target
overflow_add-target c = omega (arith, owner (goal.at.overflow_add-target c).After-word)

pub overflow_add-target-2 : goal.overflow_add-target-2
overflow_add-target-2 c =
    let at = (goal.at.overflow_add-target-2 c).After-word in
    omega (arith, state at, owner at)

pub bounds-program-word : goal.bounds-program-word
bounds-program-word c =
    let A = c.requires.left_asked.3 in
    let there = left-state-there A c.word-size.ensures c.word-owner.ensures in
    omega (arith, there, c.word.ensures, owner (goal.at.bounds-program-word c).After-word, A.book_in.table_in.long)

pub push_node-requires : goal.push_node-requires
push_node-requires c = let A = c.requires.left_asked.3 in
    let R = rooms (goal.at.push_node-requires c).Start in
    let long = c.node_values.auto.values in
    let putting = left-putting (left-asked A c.word-size.ensures c.word-owner.ensures) long in
    record { stacks = (R.0, putting); reducing = left-reducing A c.word-size.ensures c.word-owner.ensures R.0 R.1 }

pub returns-clause-goes : goal.returns-clause-goes
returns-clause-goes c = λ b ks k A.
    let R = rooms (goal.at.returns-clause-goes c).Start in
    let values = c.node_values.ensures b (left-asked A c.word-size.ensures c.word-owner.ensures) in
    left-pushed A c.word-size.ensures c.word-owner.ensures R.0 R.1 c.push_node.ensures c.start_of-start.ensures values
    (ap (λ n. get_or c.args.program.now.table.now (64 * n + (32 + c.word-owner.result)) 0) c.word.ensures)
