use Prim.Native.Nat.{◌<◌}
use mathlib.Core.Path.{refl}
use native.Mathlib.Omega.{arith}
use Rattle.machine.specs.RunningLaws.{run-low, run-moves, run-facing, run-asked, run-set, run_none, run-due, run-stepped}
use Rattle.machine.proofs.step.step.Goals as goal
use Rattle.machine.proofs.step.step.Goals.{After-number-kind}

pub overflow_mul-at : goal.overflow_mul-at
overflow_mul-at c = let (b, ks, R, M, U) = c.requires.run_in in omega (arith, (run-low R M U).position_low)

pub word-state-requires : goal.word-state-requires
word-state-requires c = let (b, ks, R, M, U) = c.requires.run_in in
    omega (arith, (run-low R M U).depth_low)

low : (c : After-number-kind) → (c.word-state.result < 128) × (c.number-kind.result < 32)
low c = let (b, ks, R, M, U) = c.requires.run_in in
    let F = run-facing R M U c.word-state.ensures c.number-kind.ensures refl in (F.state_low, F.kind_low)

pub overflow_mul-state : goal.overflow_mul-state
overflow_mul-state c = omega (arith, low (goal.at.overflow_mul-state c).After-number-kind)

pub overflow_add-state : goal.overflow_add-state
overflow_add-state c = omega (arith, low (goal.at.overflow_add-state c).After-number-kind)

pub bounds-program-state : goal.bounds-program-state
bounds-program-state c = let (b, ks, R, M, U) = c.requires.run_in in
    let F = run-facing R M U c.word-state.ensures c.number-kind.ensures refl in
    omega (arith, F.state_there, F.kind_low, R.actions_in.long)

pub returns-in_default-clause-kept : goal.returns-in_default-clause-kept
returns-in_default-clause-kept c = (refl, refl, refl, refl)

pub returns-in_default-clause-stepped : goal.returns-in_default-clause-stepped
returns-in_default-clause-stepped c = λ b ks R M U.
    run_none R M U c.word-state.ensures c.number-kind.ensures c.action_of-action.ensures c.in_default.is

pub set_top-requires : goal.set_top-requires
set_top-requires c =
    let (b, ks, R, M, U) = c.requires.run_in in
    let s = c.word-state.ensures in
    let F = run-facing R M U s c.number-kind.ensures refl in record {
      room = (
        record {
          cells_long = omega (arith, (run-low R M U).depth_low);
          records_long = omega (arith, (run-low R M U).depth_low);
        },
        F.kind_low,
      );
      by_index = (b, _, _, _, run-asked R M U s c.number-kind.ensures, F.state_there, R.driven.plans-held, U.plans_in);
    }

pub overflow_add-at : goal.overflow_add-at
overflow_add-at c = let (b, ks, R, M, U) = c.requires.run_in in
    omega (arith, (run-low R M U).position_low)

pub advance-requires-clause-moves_in : goal.advance-requires-clause-moves_in
advance-requires-clause-moves_in c = let (b, ks, R, M, U) = c.requires.run_in in
    let s = c.word-state.ensures in
    let k = c.number-kind.ensures in
    let Q = run-set R M U s k c.set_top.ensures.cell in (
      b,
      ks,
      U.at,
      run-moves R M U,
      Q.poised,
      run-facing R M U s k c.number-value.ensures,
      run-due R M U s k c.action_of-action.ensures c.in-Due.is c.number-value.ensures Q,
    )

pub returns-clause-stepped : goal.returns-clause-stepped
returns-clause-stepped c = λ b ks R M U.
    let s = c.word-state.ensures in
    let k = c.number-kind.ensures in
    run-stepped R M U s k c.action_of-action.ensures c.in-Due.is c.number-value.ensures (run-set R M U s k c.set_top.ensures.cell)
    c.advance.ensures.told
