use Rattle.automaton.specs.Lefts.{gathered-nothing}
use Rattle.automaton.proofs.lefts.front.Goals as goal

pub returns-then-nothing : goal.returns-then-nothing
returns-then-nothing c = gathered-nothing c.args.lefts.now (c.nothing.ensures c.if-nothing.true)
