use mathlib.Core.Path.{◌≡◌, sym, ◌∙◌}
use native.Mathlib.Omega.{arith}
use lib.ListN.{get_or}
use Rattle.text.specs.Class.{class_of, digit}
use Rattle.text.proofs.ClassLaws.{digit-range}
use Rattle.definitions.specs.Ended.{Second, second-of, one-stands, two-stand}
use Rattle.definitions.proofs.ended.ended.Goals as goal
use Rattle.definitions.proofs.ended.ended.Goals.{Else-class-ne-DIGIT, Then-x-class}

-- the first byte is a digit
first : (c : Else-class-ne-DIGIT) → (let a = c.args in class_of (get_or a.source.now.bytes.now a.at 0) ≡ digit)
first c = sym c.class.ensures ∙ c.if-class-ne-DIGIT.false

-- a second digit stands before the byte that ends the number
second : (c : Then-x-class) → (let a = c.args in Second a.source.now.bytes.now a.at a.stop)
second c = let a = c.args in second-of a.source.now.bytes.now a.at a.stop c.class-2.ensures c.if-x-class.true

pub overflow_sub-first : goal.overflow_sub-first
overflow_sub-first c = omega (arith, digit-range _ (first (goal.at.overflow_sub-first c).Else-class-ne-DIGIT))

pub returns-then-y-stop : goal.returns-then-y-stop
returns-then-y-stop c = one-stands _ _ (omega arith) (first (goal.at.returns-then-y-stop c).Else-class-ne-DIGIT) c.if-y-stop.true

pub overflow_sub-result : goal.overflow_sub-result
overflow_sub-result c = omega (arith, digit-range _ (second (goal.at.overflow_sub-result c).Then-x-class).digit_is)

pub returns-then-x-class : goal.returns-then-x-class
returns-then-x-class c =
    two-stand _ _ (omega arith) (first (goal.at.returns-then-x-class c).Else-class-ne-DIGIT) (second (goal.at.returns-then-x-class c).Then-x-class)
