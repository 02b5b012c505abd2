use mathlib.Core.Path.{refl}
use native.Mathlib.Omega.{arith}
use Rattle.items.specs.SuffixLoops.{suffixing-begins, suffixing-turn, suffixing-ends}
use Rattle.items.proofs.suffixes.rule_suffixes.Goals as goal

pub loop-d-init : goal.loop-d-init
loop-d-init c = suffixing-begins c.size-d.ensures

pub loop-d-preserved : goal.loop-d-preserved
loop-d-preserved c = let pre = c.requires in
    suffixing-turn pre.rule_fits.0 pre.p_in_bounds.0 pre.p_in_bounds.1 c.loop-d.invariant c.loop-d-test.true c.symbol.ensures
    c.longer-rest.ensures c.dead_end.ensures (omega (arith, c.loop-d-test.true)) c.from.ensures refl

pub returns : goal.returns
returns c = let pre = c.requires in
    suffixing-ends pre.rule_fits.0 pre.p_in_bounds.0 pre.p_in_bounds.1 c.loop-d.invariant c.loop-d-test.false c.from-2.ensures
