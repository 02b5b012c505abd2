use Prim.Native.Nat.{◌<◌}
use native.Mathlib.Omega.{arith}
use mathlib.Core.Path.{sym, ◌∙◌}
use lib.ListN.{length}
use Rattle.attributes.specs.CheckingLaws.{rule_there, rule-word, position-word, position_low, place_is}
use Rattle.attributes.specs.MarkFronts.{front-behind, front-first, fronts-more}
use Rattle.attributes.proofs.masks.mark_front.Goals as goal

pub returns-then-position-ne1 : goal.returns-then-position-ne1
returns-then-position-ne1 c = λ b F R begins owned cleared L C H l N T M.
    fronts-more C l (sym (place_is C l c.word-rule.ensures c.word-position.ensures))
    (front-behind b.rules F R L _ _ (λ z. c.if-position-ne1.true (omega (arith, c.word-position.ensures, position-word C l, position_low C l)))) M

pub returns : goal.returns
returns c = λ b F R begins owned cleared L C H l N T M.
    let there : c.word-rule.result < length b.rules = omega (arith, c.word-rule.ensures, rule_there C l) in
    fronts-more C l (omega (arith, c.if-position-ne1.false, c.word-rule.ensures, c.word-position.ensures, rule-word C l, position-word C l))
    (c.front_set.ensures b.rules F R begins L H there N T
    ∙ front-first b.rules F R L (c.word-rule.ensures ∙ rule-word C l)
    (omega (arith, c.if-position-ne1.false, c.word-position.ensures, position-word C l))) M
