use native.Mathlib.Omega.{arith}
use Rattle.console.specs.Digits.{width_small, width-large, width_some, width-most, wide}
use Rattle.console.proofs.output.width.Goals as goal

pub overflow_add-w : goal.overflow_add-w
overflow_add-w c = omega (arith, width-most c.args.n (omega arith), width_some c.loop-v.v)

pub loop-v-preserved : goal.loop-v-preserved
loop-v-preserved c = omega (arith, width-large c.loop-v.v c.loop-v-test.true)

pub returns : goal.returns
returns c = wide (omega arith) (omega (arith, width_small c.loop-v.v c.loop-v-test.false))
