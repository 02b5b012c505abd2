use Rattle.grammar.specs.Automaton.FirstSets.{first_rule}
use Rattle.items.specs.GrammarOf.{grammar_of}
use Rattle.items.specs.Passes.{Closing, left}
use Rattle.items.specs.Turned.{turned}
use Rattle.items.proofs.first.first_sets.Given as goal

abbrev pub invariant-loop : goal.invariant-loop
invariant-loop l = Closing (turned (first_rule (grammar_of l.rules l.count) l.nulls) l.count) l.count l.initial.firsts l.firsts

abbrev pub decreases-loop : goal.decreases-loop
decreases-loop l = left l.firsts
