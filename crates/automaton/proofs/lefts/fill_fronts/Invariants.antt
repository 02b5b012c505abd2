use Rattle.automaton.specs.Fronts.{Fronts}
use Rattle.automaton.proofs.lefts.fill_fronts.Given as goal

abbrev pub invariant-loop-state : goal.invariant-loop-state
invariant-loop-state l = Fronts l.rules l.count l.closures l.state l.fronts
