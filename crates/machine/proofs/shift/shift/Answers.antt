use mathlib.Core.Path.{refl}
use native.Mathlib.Omega.{arith}
use Rattle.book.specs.Refusals.{number_of}
use Rattle.machine.specs.MovingLaws.{shift-rows, shift-symbols, room-left}
use Rattle.machine.specs.ShiftMove.{ShiftLow, shift-low, shift-told}
use Rattle.machine.proofs.shift.shift.Goals as goal
use Rattle.machine.proofs.shift.shift.Goals.{Start}

-- the numbers are small
low : (c : Start) → ShiftLow c.requires.by_index.0 c.args.starts.now c.args.top c.args.state c.args.kind
low c = let s = c.requires.by_index in shift-low s.6 s.7 s.8

pub returns-then-top-eq-MAX_ROWS : goal.returns-then-top-eq-MAX_ROWS
unfolding number_of
returns-then-top-eq-MAX_ROWS c = λ b ks k rules definitions cells B H X. record { tells = shift-rows B H.config_in X.action_is c.if-top-eq-MAX_ROWS.true }

pub returns-then-top-eq-MAX_STACK : goal.returns-then-top-eq-MAX_STACK
unfolding number_of
returns-then-top-eq-MAX_STACK c = λ b ks k rules definitions cells B H X.
    record { tells = shift-symbols B H.config_in X.action_is c.if-top-eq-MAX_ROWS.false c.if-top-eq-MAX_STACK.true }

pub overflow_mul-target : goal.overflow_mul-target
overflow_mul-target c =
    omega (arith, (low (goal.at.overflow_mul-target c).Start).state_low)

pub overflow_add-target : goal.overflow_add-target
overflow_add-target c =
    let l = (low (goal.at.overflow_add-target c).Start) in omega (arith, l.state_low, l.kind_low)

pub bounds-table-state : goal.bounds-table-state
bounds-table-state c =
    let l = (low (goal.at.bounds-table-state c).Start) in
    omega (arith, l.state_there, l.kind_low, c.requires.by_index.6.table_in.long)

pub push_token-requires : goal.push_token-requires
push_token-requires c =
    let l = (low (goal.at.push_token-requires c).Start) in
    let (b, ks, k, rules, definitions, cells, B, H, X) = c.requires.by_index in
    let rows = room-left B H.config_in c.if-top-eq-MAX_ROWS.false in
    record {
      stacks = c.requires.stacks;
      depth_in_bounds = (omega (arith, l.depth_low, c.if-top-eq-MAX_STACK.false, c.requires.stacks.starts_long), rows, l.position_low, l.kind_low);
    }

pub returns : goal.returns
returns c = λ b ks k rules definitions cells B H X.
    record { tells = shift-told B H X c.requires.stacks c.if-top-eq-MAX_ROWS.false c.if-top-eq-MAX_STACK.false c.push_token.ensures refl }
