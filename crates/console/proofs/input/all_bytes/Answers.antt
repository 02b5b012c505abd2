use Rattle.console.proofs.Taking.{taking-start, taking-turn}
use Rattle.console.proofs.input.all_bytes.Goals as goal

pub loop-b-init : goal.loop-b-init
loop-b-init c = taking-start _ _ _ _

pub loop-b-preserved : goal.loop-b-preserved
loop-b-preserved c = let kept = c.one_byte-p.auto in
    taking-turn _ _ _ _ c.loop-b.invariant c.loop-b-test.true kept.text kept.numbers c.one_byte-p.ensures
