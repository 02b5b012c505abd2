use Prim.Native.Nat.{◌+◌, ◌<◌}
use mathlib.Core.Path.{refl}
use native.Mathlib.Omega.{arith}
use lib.ListN.{length}
use Rattle.agreement.specs.SingleState.{and_first, walk-last, walk-there, walk_more}
use Rattle.agreement.proofs.single.fronts_apart.Goals as goal
use Rattle.agreement.proofs.single.fronts_apart.Goals.{After-least-gap}

-- the next rule is one of the book
within : (c : After-least-gap) → c.loop-rest.rule + c.least-gap.result < length c.requires.0.rules
within c = let g = c.requires in
    g.4.low _ _ g.5 (and_first _ _ _ (walk-there c.loop-rest.invariant c.least-gap.ensures))

there : (c : After-least-gap) → c.loop-rest.rule + c.least-gap.result < 64
there c = omega (arith, (within c), c.requires.3.fits)

pub overflow_add-rule : goal.overflow_add-rule
overflow_add-rule c =
    omega (arith, (there (goal.at.overflow_add-rule c).After-least-gap))

pub overflow_mul-here : goal.overflow_mul-here
overflow_mul-here c =
    omega (arith, (there (goal.at.overflow_mul-here c).After-least-gap))

pub offset_bounds-given-rule : goal.offset_bounds-given-rule
offset_bounds-given-rule c =
    omega (arith, (there (goal.at.offset_bounds-given-rule c).After-least-gap))

pub bounds-given-rule : goal.bounds-given-rule
bounds-given-rule c =
    omega (arith, (within (goal.at.bounds-given-rule c).After-least-gap), c.requires.6)

pub overflow_add-rule-in-loop-rest : goal.overflow_add-rule-in-loop-rest
overflow_add-rule-in-loop-rest c =
    omega (arith, (there (goal.at.overflow_add-rule-in-loop-rest c).After-least-gap))

pub loop-rest-smaller : goal.loop-rest-smaller
loop-rest-smaller c =
    omega (arith, (there (goal.at.loop-rest-smaller c).After-least-gap))

pub loop-rest-preserved : goal.loop-rest-preserved
loop-rest-preserved c = walk_more c.loop-rest.invariant c.least-gap.ensures c.behind-rest.ensures refl c.if-bits-here-ne0.false

pub returns : goal.returns
returns c = walk-last c.loop-rest.invariant c.loop-rest-test.false
