use Rattle.automaton.specs.Lefts.{bits-behind}
use Rattle.automaton.proofs.lefts.behind.Goals as goal

pub returns : goal.returns
returns c = λ i. bits-behind c.args.rules c.args.one i
