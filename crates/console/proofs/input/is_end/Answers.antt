use Rattle.console.specs.Lines.{end-steps}
use Rattle.console.proofs.input.is_end.Goals as goal

pub returns : goal.returns
returns c = end-steps _ _ c.end_line.ensures
