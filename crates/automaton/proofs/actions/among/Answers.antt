use Rattle.automaton.specs.ActionRows.{among-is}
use Rattle.automaton.proofs.actions.among.Goals as goal

pub returns : goal.returns
returns c = among-is c.args.set c.args.terminals c.requires
