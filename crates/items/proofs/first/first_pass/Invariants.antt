use Rattle.grammar.specs.Automaton.FirstSets.{first_rule}
use Rattle.items.specs.GrammarOf.{grammar_of}
use Rattle.items.specs.Turned.{Descending}
use Rattle.items.proofs.first.first_pass.Given as goal

abbrev pub invariant-loop-p : goal.invariant-loop-p
invariant-loop-p l = Descending (first_rule (grammar_of l.rules l.count) l.nulls) l.count l.initial.firsts l.firsts l.changed l.p
