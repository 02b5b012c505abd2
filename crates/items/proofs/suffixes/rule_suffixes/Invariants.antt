use Rattle.items.specs.SuffixLoops.{Suffixing}
use Rattle.items.proofs.suffixes.rule_suffixes.Given as goal

abbrev pub invariant-loop-d : goal.invariant-loop-d
invariant-loop-d l = Suffixing l.rules l.p l.nulls l.firsts l.initial.nullables l.nullables l.initial.begins l.begins l.d l.rest.nullable l.rest.begins l.alive
