use mathlib.Core.Path.{sym, ◌∙◌}
use Rattle.items.specs.Derives.{first-null, first-full}
use Rattle.items.proofs.closure.first_with.Goals as goal

pub returns-then-nullables-place-eq0 : goal.returns-then-nullables-place-eq0
returns-then-nullables-place-eq0 c = let a = c.args in λ G F R p d. sym (first-full R a.rule a.dot a.own p d c.if-nullables-place-eq0.true)

pub returns : goal.returns
returns c = let a = c.args in
    λ G F R p d. c.union.ensures ∙ sym (first-null R a.rule a.dot a.own p d c.if-nullables-place-eq0.false)
