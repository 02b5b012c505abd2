use Rattle.items.specs.Rests.{reach-terminal, reach-dead, reach-past, reach-stops}
use Rattle.items.proofs.reach.reach_step.Goals as goal

pub returns-then-word-lt32 : goal.returns-then-word-lt32
returns-then-word-lt32 c = λ F β n R. reach-terminal F _ β c.if-word-lt32.true c.single.ensures

pub returns-then-dead_end : goal.returns-then-dead_end
returns-then-dead_end c = λ F β n R. reach-dead F _ β c.if-word-lt32.false (c.dead_end.ensures F β R) c.if-dead_end.true

pub returns-then-has : goal.returns-then-has
returns-then-has c = λ F β n R.
    reach-past F _ β c.if-word-lt32.false
    (c.dead_end.ensures F β R) c.if-dead_end.false n
    c.has.ensures R.first_is c.if-has.true
    c.union.ensures

pub returns : goal.returns
returns c = λ F β n R.
    reach-stops F _ β c.if-word-lt32.false (c.dead_end.ensures F β R)
    c.if-dead_end.false n c.has.ensures c.if-has.false
