use Rattle.automaton.specs.GoTable.{Filled}
use Rattle.automaton.proofs.go_table.go_table.Given as goal

abbrev pub invariant-loop-i : goal.invariant-loop-i
invariant-loop-i l = Filled l.goes l.count l.states l.i l.table
