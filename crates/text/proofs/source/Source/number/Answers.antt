use Rattle.text.proofs.Reading.{decimal-valid}
use Rattle.text.proofs.source.Source.number.Goals as goal

pub invariant_of-s : goal.invariant_of-s
invariant_of-s c = record { valid = decimal-valid }
