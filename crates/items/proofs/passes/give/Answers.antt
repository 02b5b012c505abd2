use mathlib.Core.Path.{refl}
use Rattle.items.specs.Passes.{given-same, given-more}
use Rattle.items.proofs.passes.give.Goals as goal

pub returns-then-new-old : goal.returns-then-new-old
returns-then-new-old c = given-same _ _ c.union-new.ensures c.if-new-old.true

pub returns : goal.returns
returns c = given-more _ _ c.union-new.ensures (record { long = refl; low = λ i. (c.slice_known-1.given i).fits })
    c.requires c.if-new-old.false
