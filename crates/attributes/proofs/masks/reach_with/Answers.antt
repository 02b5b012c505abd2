use mathlib.Core.Path.{sym, ◌∙◌}
use Rattle.attributes.specs.ReachWith.{reach-null, reach-full}
use Rattle.attributes.proofs.masks.reach_with.Goals as goal

pub returns-then-nullables-place-eq0 : goal.returns-then-nullables-place-eq0
returns-then-nullables-place-eq0 c = let a = c.args in
    λ G F R begins N H p d. sym (reach-full N H a.rule a.dot a.own p d c.if-nullables-place-eq0.true)

pub returns : goal.returns
returns c = let a = c.args in
    λ G F R begins N H p d. c.union.ensures ∙ sym (reach-null N H a.rule a.dot a.own p d c.if-nullables-place-eq0.false)
