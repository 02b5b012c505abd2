use Rattle.grammar.specs.Automaton.FirstSets.{sets_of}
use Rattle.grammar.specs.Automaton.ReachSets.{reach_rule}
use Rattle.items.specs.GrammarOf.{grammar_of}
use Rattle.items.specs.Passes.{Closing, left}
use Rattle.items.proofs.reach.reach_sets.Given as goal

abbrev pub invariant-loop : goal.invariant-loop
invariant-loop l = Closing (reach_rule (grammar_of l.rules l.count) (sets_of (grammar_of l.rules l.count))) l.count l.initial.reached l.reached

abbrev pub decreases-loop : goal.decreases-loop
decreases-loop l = left l.reached
