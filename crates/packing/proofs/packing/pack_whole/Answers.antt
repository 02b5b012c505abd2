use Rattle.packing.specs.PackingLoops.{packing-start, packing-turn}
use Rattle.packing.proofs.packing.pack_whole.Goals as goal

pub loop-i-init : goal.loop-i-init
loop-i-init c = packing-start _ _

pub loop-i-preserved : goal.loop-i-preserved
loop-i-preserved c = packing-turn c.loop-i.invariant c.loop-i-test.true c.requires c.from_le_bytes.ensures
