use Prim.Native.Nat.{◌+◌}
use native.Mathlib.Omega.{arith}
use lib.ListN.{get_or}
use Rattle.grammar.specs.Formulas.FormulaCheck.{progress}
use Rattle.agreement.specs.PassLaws.{reached-stands, pass-start, pass-split, pass-turn}
use Rattle.agreement.specs.Over.{kept-same, kept-more}
use Rattle.attributes.specs.Skips.{Skip, visits-skip}
use Rattle.agreement.proofs.check.pass.Goals as goal

pub loop-i-init : goal.loop-i-init
loop-i-init c = let S = c.requires.1.skip 0 (omega arith) (omega arith) in (
  S.high,
  kept-same _,
  λ b slots done H e R. rw (← visits-skip H e S (progress slots done)) (pass-start b _ R),
)

pub visit-requires : goal.visit-requires
visit-requires c = let at = c.loop-i in
    let g = c.requires in
    let (s, d, is, R) = reached-stands (at.invariant.2 g.0.0 g.0.1 g.0.2 g.0.3 g.0.4 g.0.5) in
    ((g.0.0, s, d, g.0.3, omega (arith, c.loop-i-test.true, g.0.4), R), omega (arith, c.loop-i-test.true, g.2, at.invariant.1.nodes_kept.nexts_long))

pub returns-in_err-p : goal.returns-in_err-p
returns-in_err-p c = let at = c.loop-i in record {
  room = kept-more at.invariant.1 c.in_err-p.ensures.room;
  reached = λ b s d H e R.
      rw c.from_residual.ensures
      (pass-split b _ at.i _ (progress s d) c.loop-i-test.true
      (pass-turn b _ at.i (progress s d) (at.invariant.2 b s d H e R)
      (λ slots done Q. c.in_err-p.ensures.reached b slots done H (omega (arith, c.loop-i-test.true, e)) Q)));
}

pub loop-i-preserved : goal.loop-i-preserved
loop-i-preserved c =
    let at = c.loop-i in
    let on : Skip c.args.parts.now.definitions.now c.args.parts.now.masks.now c.args.wanted c.args.parts.now.lines (at.i + 1) (get_or c.args.skips.now (at.i + 1) 0) =
    c.requires.1.skip (at.i + 1) (omega arith) (omega (arith, c.loop-i-test.true)) in (
      on.high,
      kept-more at.invariant.1 c.in_ok-p.ensures.room,
      λ b s d H e R.
          rw (← visits-skip H e on (progress s d))
          (pass-turn b _ at.i (progress s d) (at.invariant.2 b s d H e R)
          (λ slots done Q. c.in_ok-p.ensures.reached b slots done H (omega (arith, c.loop-i-test.true, e)) Q)),
    )
