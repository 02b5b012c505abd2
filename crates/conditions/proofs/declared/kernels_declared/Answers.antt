use native.Mathlib.Omega.{arith}
use borrow.Author.Tests.{tests}
use Rattle.std.proofs.Common.{rules}
use Rattle.std.proofs.lemmas.Iterator.{serves_from_Range}
use Rattle.grammar.specs.Data.Book.{Book as Lines}
use Rattle.conditions.specs.Asked.{KernelOf}
use Rattle.conditions.specs.Answers.{answers-same}
use Rattle.conditions.specs.Chains.{all_places}
use Rattle.conditions.specs.DeclaredLaws.{kernels-lines}
use Rattle.conditions.specs.DeclaredTests.{kernel_declared}
use Rattle.conditions.proofs.declared.kernels_declared.Goals as goal

pub all-requires-clause-callable : goal.all-requires-clause-callable
all-requires-clause-callable c = let (b, H) = c.requires in
    serves_from_Range (λ i q k. search (rules, tests)) (λ i l h.
    let there : (b : Lines) × KernelOf c.args.book c.args.rules.now c.args.kernels.now i b =
    (b, record { kernels_of = H; kernel_there = omega (arith, H.rules_of.counted.kernels_are) }) in search rules)

pub returns : goal.returns
returns c = answers-same (λ b h. kernels-lines h.rules_of.counted)
    (all_places (λ b i. kernel_declared i b) (KernelOf c.args.book c.args.rules.now c.args.kernels.now) _
    (λ b h i l. record { kernels_of = h; kernel_there = omega (arith, h.rules_of.counted.kernels_are) })
    _ _ _ c.all.ensures.ran (λ i q k. search (rules, tests)) (λ i q k. search (rules, tests)))
