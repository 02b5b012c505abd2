use Rattle.kernels.specs.GoLines.{go-steps}
use Rattle.kernels.proofs.goes.go_line.Goals as goal

pub returns : goal.returns
returns c = go-steps _ _ c.go-read.ensures c.key_of-key.ensures c.ascends.ensures
    c.require-d.ensures c.code.ensures c.put_line.ensures
