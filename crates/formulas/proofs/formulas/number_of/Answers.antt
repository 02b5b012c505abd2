use Rattle.formulas.specs.FormulasLaws.{numbered-new}
use Rattle.formulas.proofs.formulas.number_of.Goals as goal

pub returns-in-New-clause-numbered : goal.returns-in-New-clause-numbered
returns-in-New-clause-numbered c = rw c.in-New.is (numbered-new c.intern.ensures.added)
