use Rattle.automaton.specs.Lefts.{gathered_none, gathered-more}
use Rattle.automaton.proofs.lefts.entered.Goals as goal

pub loop-i-init : goal.loop-i-init
loop-i-init c = let a = c.args in gathered_none a.closures.now a.first a.lefts.now

pub loop-i-preserved : goal.loop-i-preserved
loop-i-preserved c = gathered-more c.loop-i.invariant c.loop-i-test.true c.chosen-rules.ensures
