use native.Mathlib.Omega.{arith}
use lib.Dec.{lit<}
use lib.Pow.{shl_exact}
use Rattle.automaton.specs.Lefts.{filled_none, filled_more}
use Rattle.automaton.proofs.lefts.fill_lefts.Goals as goal

pub loop-rule-init : goal.loop-rule-init
loop-rule-init c = filled_none c.args.rules.now c.args.count c.requires.2 c.requires.3

pub loop-rule-preserved : goal.loop-rule-preserved
loop-rule-preserved c = let one = shl_exact {a = 1} 1 c.loop-rule.rule 64 (lit< tt) (omega (arith, c.loop-rule-test.true, c.requires.1)) in
    filled_more c.loop-rule.invariant c.loop-rule-test.true c.word-left.ensures (omega (arith, one))
