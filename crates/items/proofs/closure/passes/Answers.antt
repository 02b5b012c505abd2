use Rattle.grammar.specs.Automaton.LeastLaws.{Family}
use Rattle.items.specs.Passes.{closing-turn, closing-ends, closing-less}
use Rattle.items.specs.ClosurePasses.{closure-fits}
use Rattle.items.proofs.closure.passes.Goals as goal
use Rattle.items.proofs.closure.passes.Goals.{After-slice_known-1}

-- the words lent are sets
family : (c : After-slice_known-1) → Family 32 c.args.looks.now
family c = record { long = c.requires.2; low = λ i. (c.slice_known-1.given i).fits }

pub loop-smaller : goal.loop-smaller
loop-smaller c =
    let g = c.requires.0 in
    closing-less (closure-fits g.2 g.3 (family (goal.at.loop-smaller c).After-slice_known-1))
    (c.loop.invariant g.0 g.1 g.2 g.3)
    (c.pass.ensures g.0 g.1 g.2 g.3) c.loop-test.true

pub loop-preserved : goal.loop-preserved
loop-preserved c =
    λ b F H e.
    closing-turn (closure-fits H e (family (goal.at.loop-preserved c).After-slice_known-1))
    (c.loop.invariant b F H e) (c.pass.ensures b F H e)

pub returns : goal.returns
returns c =
    λ b F H e.
    closing-ends (closure-fits H e (family (goal.at.returns c).After-slice_known-1))
    (c.loop.invariant b F H e) (c.pass.ensures b F H e) c.loop-test.false
