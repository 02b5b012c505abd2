use mathlib.Core.Path.{◌∙◌}
use native.Mathlib.Omega.{arith}
use Rattle.attributes.specs.MarkFronts.{front-none, front-some}
use Rattle.attributes.proofs.masks.front_set.Goals as goal

pub returns-then-own-eq0 : goal.returns-then-own-eq0
returns-then-own-eq0 c = λ G F R begins L H p N T.
    front-none H c.args.rule p F R c.word-left.ensures c.if-own-eq0.true

pub returns : goal.returns
returns c = λ G F R begins L H p N T.
    c.reach_with.ensures G F R begins N T p (omega arith)
    ∙ front-some H c.args.rule p F R c.word-left.ensures c.if-own-eq0.false
