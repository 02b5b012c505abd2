use native.Mathlib.Omega.{arith}
use borrow.Author.Tests.{tests}
use Rattle.std.proofs.Common.{rules}
use Rattle.std.proofs.lemmas.Iterator.{serves_from_Range}
use Rattle.grammar.specs.Data.Book.{Book as Lines}
use Rattle.conditions.specs.Asked.{RuleOf}
use Rattle.conditions.specs.AskedLaws.{rule-of}
use Rattle.conditions.specs.Answers.{answers-same}
use Rattle.conditions.specs.Chains.{all_places}
use Rattle.conditions.specs.DeclaredLaws.{rules-lines}
use Rattle.conditions.specs.DeclaredTests.{rule_declared}
use Rattle.conditions.proofs.declared.rules_declared.Goals as goal

pub all-requires-clause-callable : goal.all-requires-clause-callable
all-requires-clause-callable c = let (b, H) = c.requires in
    serves_from_Range (λ i q k. search (rules, tests)) (λ i l h.
    let there : (b : Lines) × RuleOf c.args.book c.args.rules.now i b = (b, rule-of i H (omega (arith, H.counted.rules_are))) in search rules)

pub returns : goal.returns
returns c = answers-same (λ b h. rules-lines h.counted)
    (all_places (λ b i. rule_declared i b) (RuleOf c.args.book c.args.rules.now) _ (λ b h i l. rule-of i h (omega (arith, h.counted.rules_are)))
    _ _ _ c.all.ensures.ran (λ i q k. search (rules, tests)) (λ i q k. search (rules, tests)))
