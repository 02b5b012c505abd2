use mathlib.Core.Path.{refl}
use native.Mathlib.Omega.{arith}
use Rattle.machine.specs.RunningLaws.{underway-start}
use Rattle.machine.specs.Running.{rows-count}
use Rattle.machine.proofs.run.run.Goals as goal

pub loop-next-init : goal.loop-next-init
loop-next-init c =
    let e = c.empty-top.ensures in (c.requires.rows_long, (refl, refl, refl, refl), λ b ks R M P. underway-start c.args.stacks.now.states P (omega arith) e.0 e.1 e.2)

pub overflow_cast-result : goal.overflow_cast-result
overflow_cast-result c = let (b, ks, R, M, P) = c.requires.run_in in
    let (e, l) = rows-count (c.loop-next.invariant.2 b ks R M P).config_in in omega (arith, e, l)
