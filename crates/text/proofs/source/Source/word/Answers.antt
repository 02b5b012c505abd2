use Rattle.text.proofs.Reading.{letters-valid}
use Rattle.text.proofs.source.Source.word.Goals as goal

pub invariant_of-s : goal.invariant_of-s
invariant_of-s c = record { valid = letters-valid }
