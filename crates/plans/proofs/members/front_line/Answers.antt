use native.Mathlib.Omega.{arith}
use Rattle.attributes.specs.CheckingLaws.{position-word, position_low}
use Rattle.attributes.specs.MarkFronts.{front-behind}
use Rattle.plans.specs.Found.{no-bit, fronts-less}
use Rattle.plans.proofs.members.front_line.Goals as goal

pub returns-then-word-ne1 : goal.returns-then-word-ne1
returns-then-word-ne1 c = λ b F R begins owned masks L C H l N T M.
    fronts-less b F R _ M (omega (arith, l, C.premises.definitions_limit))
    (no-bit c.args.terminal
    (front-behind b.rules F R L _ _ (λ z. c.if-word-ne1.true (omega (arith, c.word.ensures, position-word C l, position_low C l)))))
