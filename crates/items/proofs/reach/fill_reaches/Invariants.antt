use Rattle.grammar.specs.Automaton.FirstSets.{sets_of}
use Rattle.grammar.specs.Automaton.ReachSets.{reach_in}
use Rattle.items.specs.GrammarOf.{grammar_of}
use Rattle.items.specs.Filling.{RestsFilled}
use Rattle.items.proofs.reach.fill_reaches.Given as goal

abbrev pub invariant-loop-p : goal.invariant-loop-p
invariant-loop-p l = RestsFilled (reach_in (sets_of (grammar_of l.rules l.count)) l.reached) l.rules l.count l.initial.reaches l.reaches l.p
