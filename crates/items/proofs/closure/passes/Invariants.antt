use Rattle.items.specs.Passes.{left}
use Rattle.items.specs.ClosurePasses.{Settling}
use Rattle.items.proofs.closure.passes.Given as goal

abbrev pub invariant-loop : goal.invariant-loop
invariant-loop l = Settling l.rules l.nullables l.begins l.count l.initial.looks l.looks

abbrev pub decreases-loop : goal.decreases-loop
decreases-loop l = left l.looks
