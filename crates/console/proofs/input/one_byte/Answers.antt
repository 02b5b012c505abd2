use Rattle.console.proofs.Settled.{settled-more}
use Rattle.console.specs.Holds.{held-refused}
use Rattle.console.proofs.input.one_byte.Goals as goal

pub returns-in-Refused : goal.returns-in-Refused
returns-in-Refused c = λ i h. rw c.in-Refused.is (settled-more _ (held-refused _ _ i c.in-Refused.is h))
