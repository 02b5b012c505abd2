use Rattle.grammar.specs.Data.Book.{Book}
use Rattle.automaton.specs.KernelRules.{RuledIn, Walked}
use Rattle.automaton.proofs.kernel_rules.lines_right.Given as goal

abbrev pub invariant-loop-i : goal.invariant-loop-i
invariant-loop-i l = (b : Book) → RuledIn b l.rules l.kernels l.count → Walked b l.initial.bounds 1 → Walked b l.bounds l.i
