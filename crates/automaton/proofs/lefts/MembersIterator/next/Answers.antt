use Rattle.automaton.specs.Members.{cleared}
use Rattle.automaton.proofs.lefts.MembersIterator.next.Goals as goal

pub returns-clause-steps : goal.returns-clause-steps
returns-clause-steps c = (c.least-first.ensures, cleared c.least-first.ensures)
