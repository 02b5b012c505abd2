use Rattle.desk.specs.Run.{reached-end}
use Rattle.desk.proofs.run.Goals as goal

pub returns : goal.returns
returns g c = reached-end c.in-Ok.ensures c.answer.ensures
