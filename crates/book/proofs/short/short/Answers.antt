use Prim.Native.Nat.{◌+◌}
use mathlib.Core.Path.{◌≡◌, sym, ◌∙◌}
use native.Mathlib.Omega.{arith}
use lib.ListN.{get_or}
use Rattle.text.specs.Class.{class_of, digit}
use Rattle.text.proofs.ClassLaws.{digit-range}
use Rattle.book.specs.Short.{one_digit, two_digits, three-digits}
use Rattle.book.proofs.short.short.Goals as goal
use Rattle.book.proofs.short.short.Goals.{Else-class-ne-DIGIT, Else-class-ne-DIGIT-2, Else-class-ne-DIGIT-3}

-- the digits that were met
first : (c : Else-class-ne-DIGIT) → (let a = c.args in class_of (get_or a.source.now.bytes.now a.at 0) ≡ digit)
first c = sym c.class.ensures ∙ c.if-class-ne-DIGIT.false

second : (c : Else-class-ne-DIGIT-2)
    → (let a = c.args in class_of (get_or a.source.now.bytes.now (a.at + 1) 0) ≡ digit)
second c = sym c.class-2.ensures ∙ c.if-class-ne-DIGIT-2.false

third : (c : Else-class-ne-DIGIT-3)
    → (let a = c.args in
    class_of (get_or a.source.now.bytes.now (a.at + 2) 0) ≡ digit)
third c = sym c.class-3.ensures ∙ c.if-class-ne-DIGIT-3.false

pub overflow_sub-result : goal.overflow_sub-result
overflow_sub-result c = omega (arith, digit-range _ (first (goal.at.overflow_sub-result c).Else-class-ne-DIGIT))

pub returns-then-class-ne-DIGIT-2 : goal.returns-then-class-ne-DIGIT-2
returns-then-class-ne-DIGIT-2 c = one_digit _ _ c.requires (first (goal.at.returns-then-class-ne-DIGIT-2 c).Else-class-ne-DIGIT) (λ q. c.if-class-ne-DIGIT-2.true (c.class-2.ensures ∙ q))

pub overflow_sub-result-then-class-ne-DIGIT-3 : goal.overflow_sub-result-then-class-ne-DIGIT-3
overflow_sub-result-then-class-ne-DIGIT-3 c = omega (arith, digit-range _ (first (goal.at.overflow_sub-result-then-class-ne-DIGIT-3 c).Else-class-ne-DIGIT), digit-range _ (second (goal.at.overflow_sub-result-then-class-ne-DIGIT-3 c).Else-class-ne-DIGIT-2))

pub returns-then-class-ne-DIGIT-3 : goal.returns-then-class-ne-DIGIT-3
returns-then-class-ne-DIGIT-3 c = two_digits _ _ c.requires (first (goal.at.returns-then-class-ne-DIGIT-3 c).Else-class-ne-DIGIT) c.if-x-eq48.false (second (goal.at.returns-then-class-ne-DIGIT-3 c).Else-class-ne-DIGIT-2)
    (λ q. c.if-class-ne-DIGIT-3.true (c.class-3.ensures ∙ q))

pub overflow_sub-result-2 : goal.overflow_sub-result-2
overflow_sub-result-2 c = omega (arith, digit-range _ (first (goal.at.overflow_sub-result-2 c).Else-class-ne-DIGIT), digit-range _ (second (goal.at.overflow_sub-result-2 c).Else-class-ne-DIGIT-2), digit-range _ (third (goal.at.overflow_sub-result-2 c).Else-class-ne-DIGIT-3))

pub returns : goal.returns
returns c = three-digits _ _ c.requires (first (goal.at.returns c).Else-class-ne-DIGIT) c.if-x-eq48.false (second (goal.at.returns c).Else-class-ne-DIGIT-2) (third (goal.at.returns c).Else-class-ne-DIGIT-3)
    (λ q. c.if-class-eq-DIGIT.false (c.class-4.ensures ∙ q))
