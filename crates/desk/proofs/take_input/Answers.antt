use Rattle.desk.specs.Run.{reached-held, running-start, running-buffers, running_more}
use Rattle.desk.proofs.take_input.Goals as goal

pub loop-turn-init : goal.loop-turn-init
loop-turn-init g c = running-start _ _ _

pub all_bytes-p-requires : goal.all_bytes-p-requires
all_bytes-p-requires g c = (running-buffers c.loop-turn.invariant c.requires, reached-held c.loop-turn.invariant.reached)

pub loop-turn-preserved : goal.loop-turn-preserved
loop-turn-preserved g c =
    running_more c.loop-turn.invariant _ c.read.auto.buf c.all_bytes-p.auto.text c.all_bytes-p.auto.numbers c.all_bytes-p.ensures
