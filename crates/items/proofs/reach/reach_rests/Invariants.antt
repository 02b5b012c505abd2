use Rattle.items.specs.ReachLoops.{Reaching}
use Rattle.items.proofs.reach.reach_rests.Given as goal

abbrev pub invariant-loop-d : goal.invariant-loop-d
invariant-loop-d l = Reaching l.rules l.p l.nulls l.nullables l.begins l.reached l.initial.reaches l.reaches l.d
