use native.Mathlib.Omega.{arith}
use borrow.Author.Tests.{tests}
use Rattle.std.proofs.Common.{rules}
use Rattle.std.proofs.lemmas.Iterator.{serves_from_Range}
use Rattle.conditions.specs.Asked.{Entry, EntryOf}
use Rattle.conditions.specs.AskedLaws.{inherited_entry, inherited-entry}
use Rattle.conditions.specs.Answers.{answers-same}
use Rattle.conditions.specs.Chains.{all_places}
use Rattle.conditions.specs.DeclaredTests.{inherited_line_declared}
use Rattle.conditions.specs.DeclaredLaws.{inherited-lines}
use Rattle.conditions.proofs.declared.inherited_declared.Goals as goal

pub all-requires-clause-callable : goal.all-requires-clause-callable
all-requires-clause-callable c = let (b, H) = c.requires in
    serves_from_Range (λ i q k. search (rules, tests)) (λ i l h.
    let there : (x : Entry) × EntryOf c.args.book c.args.rules.now c.args.definitions.now i x =
    (inherited_entry b i, inherited-entry H i (omega (arith, H.rules_of.counted.inherited_definitions_are))) in search rules)

pub returns : goal.returns
returns c = answers-same (λ b h. inherited-lines h.rules_of.counted)
    (all_places (λ b i. inherited_line_declared (inherited_entry b i))
    (λ i b. EntryOf c.args.book c.args.rules.now c.args.definitions.now i (inherited_entry b i)) _
    (λ b h i l. inherited-entry h i (omega (arith, h.rules_of.counted.inherited_definitions_are)))
    _ _ _ c.all.ensures.ran (λ i q k. search (rules, tests)) (λ i q k. search (rules, tests)))
