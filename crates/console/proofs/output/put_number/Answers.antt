use native.Mathlib.Omega.{arith}
use Rattle.console.specs.Digits.{filling-more, filling-turn, filling-end}
use Rattle.console.proofs.output.put_number.Goals as goal

pub overflow_sub-i-in-loop-v : goal.overflow_sub-i-in-loop-v
overflow_sub-i-in-loop-v c = filling-more _ _ _ _ c.loop-v.invariant c.loop-v-test.true

pub loop-v-preserved : goal.loop-v-preserved
loop-v-preserved c = filling-turn _ _ _ _ c.loop-v.invariant c.loop-v-test.true c.digit.ensures

pub returns : goal.returns
returns c = filling-end _ _ _ _ c.loop-v.invariant c.loop-v-test.false (omega arith) c.digit-2.ensures
