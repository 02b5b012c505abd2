use Prim.Native.Nat.{◌-◌}
use lib.Bits.{bit_and}
use lib.ListN.{get_or}
use Rattle.agreement.specs.SingleState.{Walk}
use Rattle.agreement.proofs.single.fronts_apart.Given as goal

abbrev pub invariant-loop-rest : goal.invariant-loop-rest
invariant-loop-rest l = Walk (bit_and (get_or l.fronts l.state 0) l.leaders) l.given l.rest l.bits l.rule

abbrev pub decreases-loop-rest : goal.decreases-loop-rest
decreases-loop-rest l = 64 - l.rule
