use Rattle.std.proofs.Common.{◌∙◌}
use Rattle.packing.specs.PlacedLaws.{placed-word}
use Rattle.packing.proofs.unpacking.put_whole.Goals as goal

pub returns : goal.returns
returns c = placed-word c.args.text.now c.copy_from_slice.new.self c.args.at c.args.word (c.copy_from_slice.ensures.after ∙ c.to_le_bytes.ensures)
