use Prim.Native.Nat.{◌-◌}
use Rattle.items.specs.ClosurePasses.{Sweeping}
use Rattle.items.proofs.closure.pass.Given as goal

abbrev pub invariant-loop-rule : goal.invariant-loop-rule
invariant-loop-rule l = Sweeping l.rules l.nullables l.begins l.count l.initial.looks l.looks l.changed l.rule

abbrev pub decreases-loop-rule : goal.decreases-loop-rule
decreases-loop-rule l = l.count - l.rule
