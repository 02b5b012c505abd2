use Rattle.automaton.specs.Lefts.{Filled}
use Rattle.automaton.proofs.lefts.fill_lefts.Given as goal

abbrev pub invariant-loop-rule : goal.invariant-loop-rule
invariant-loop-rule l = Filled l.rules l.count l.lefts l.rule
