use Prim.Native.Nat.{◌-◌, ◌<◌}
use native.Mathlib.Omega.{arith}
use Rattle.attributes.specs.Skips.{Skip, skip_step, skips-more}
use Rattle.attributes.proofs.skips.skip.Goals as goal

pub loop-i-preserved : goal.loop-i-preserved
loop-i-preserved c =
    let at = c.loop-i in
    let few : c.args.lines < 129 = omega (arith, c.requires.0.4, c.requires.0.3.premises.definitions_limit) in
    let found : Skip c.args.definitions.now c.args.masks.now c.args.wanted c.args.lines (at.i - 1) c.nearest-next.result =
    c.nearest-next.ensures c.args.lines (omega (arith, c.loop-i-test.true)) (skip_step c.loop-i-test.true at.invariant.1) in
    (skips-more at.skips c.loop-i-test.true at.auto.i few at.invariant.0 found, found)
