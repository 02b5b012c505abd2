use Rattle.console.specs.Output.{puts-bytes}
use Rattle.console.proofs.output.put_bytes.Goals as goal

pub returns : goal.returns
returns c = puts-bytes _ _ _ _ c.requires c.copy_from_slice.ensures.after
