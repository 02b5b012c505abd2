use Rattle.grammar.specs.Automaton.FirstSets.{sets_of}
use Rattle.grammar.specs.Automaton.ReachSets.{reach_rule}
use Rattle.items.specs.GrammarOf.{grammar_of}
use Rattle.items.specs.Passes.{Passing}
use Rattle.items.proofs.reach.reach_pass.Given as goal

abbrev pub invariant-loop-p : goal.invariant-loop-p
invariant-loop-p l = Passing (reach_rule (grammar_of l.rules l.count) (sets_of (grammar_of l.rules l.count))) l.count l.initial.reached l.reached l.changed l.p
