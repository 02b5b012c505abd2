use mathlib.Core.Path.{◌≡◌}
use Rattle.plans.specs.Places.{FrontFree}
use Rattle.plans.proofs.members.front_free.Given as goal

abbrev pub invariant-loop-i : goal.invariant-loop-i
invariant-loop-i l = l.bits ≡ 0 → FrontFree l.closures l.first l.places l.i
