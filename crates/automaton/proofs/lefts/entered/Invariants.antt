use Rattle.automaton.specs.Lefts.{Gathered}
use Rattle.automaton.proofs.lefts.entered.Given as goal

abbrev pub invariant-loop-i : goal.invariant-loop-i
invariant-loop-i l = Gathered l.closures l.first l.lefts l.i l.rules
