use Rattle.items.specs.SuffixLoops.{SuffixesFilled}
use Rattle.items.proofs.suffixes.suffixes.Given as goal

abbrev pub invariant-loop-p : goal.invariant-loop-p
invariant-loop-p l = SuffixesFilled l.rules l.count l.nulls l.firsts l.initial.nullables l.nullables l.initial.begins l.begins l.alive l.p
