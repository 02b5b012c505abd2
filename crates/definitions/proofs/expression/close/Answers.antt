use Prim.Native.Nat.{◌+◌, ◌-◌}
use mathlib.Core.Bool.{true, false}
use mathlib.Core.Path.{◌≡◌, refl}
use native.Mathlib.Omega.{arith}
use Rattle.definitions.specs.Expressions.{WaitsRoom}
use Rattle.definitions.specs.ExpressionsLoop.{mark-shorter, working-space, working-close}
use Rattle.definitions.proofs.expression.close.Goals as goal
use Rattle.definitions.proofs.expression.close.Goals.{In-loop-i}

-- in each turn the stack has its room, and the operator on top is in it
waits-room : (c : In-loop-i) → WaitsRoom c.args.source.now.bytes.now c.loop-i.waits
waits-room c = omega (arith, c.loop-i.auto.waits, c.requires.0)

depth_is : (c : In-loop-i) → c.loop-i.i - 1 + 1 ≡ c.loop-i.i
depth_is c = omega (arith, c.loop-i-test.true)

pub returns-then-source-p : goal.returns-then-source-p
returns-then-source-p c = λ first start w.
    let inv = c.loop-i.invariant in
    rw (depth_is (goal.at.returns-then-source-p c).In-loop-i)
    (record { due = false; working = inv.1 first start w; ends = λ e. refl; asks = λ d h. absurd (omega (arith, c.if-source-p.true)); shorter = inv.0 })

pub returns-then-code-ge16 : goal.returns-then-code-ge16
returns-then-code-ge16 c =
    λ first start w.
    let inv = c.loop-i.invariant in
    let more = inv.1 first start w in
    let within = c.if-source-p.false in
    rw (depth_is (goal.at.returns-then-code-ge16 c).In-loop-i)
    (record {
      due = true;
      working = working-space more within refl c.loop-i-test.true refl (waits-room (goal.at.returns-then-code-ge16 c).In-loop-i) c.if-code-ge16.true c.mark.ensures;
      ends = λ e. absurd (omega (arith, c.loop-i-test.true));
      asks = λ d h. refl;
      shorter = omega (arith, inv.0, mark-shorter more within _ _ c.mark.ensures);
    })

pub overflow_add-count : goal.overflow_add-count
overflow_add-count c = let (first, from, w) = c.requires.2 in
    omega (arith, (c.loop-i.invariant.1 first from w).counted, c.args.source.now.lent.short)

pub loop-i-preserved : goal.loop-i-preserved
loop-i-preserved c = let inv = c.loop-i.invariant in
    let within = c.if-source-p.false in
    let (first, from, w) = c.requires.2 in (
      omega (arith, inv.0, mark-shorter (inv.1 first from w) within _ _ c.mark-p.ensures),
      λ first from w. working-close (inv.1 first from w) within refl c.loop-i-test.true refl c.if-code-ge16.false
          c.mark-p.ensures c.put_node.ensures,
    )

pub returns : goal.returns
returns c = λ first start w.
    let inv = c.loop-i.invariant in
    let none : c.loop-i.i ≡ 0 = omega (arith, c.loop-i-test.false) in
    record { due = false; working = rw none at inv.1 first start w; ends = λ e. refl; asks = λ d h. absurd (omega arith); shorter = inv.0 }
