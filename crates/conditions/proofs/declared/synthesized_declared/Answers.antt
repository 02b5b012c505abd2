use Prim.Native.Nat.{◌+◌}
use native.Mathlib.Omega.{arith}
use borrow.Author.Tests.{tests}
use Rattle.std.proofs.Common.{rules}
use Rattle.std.proofs.lemmas.Iterator.{serves_from_Range}
use Rattle.conditions.specs.Asked.{Entry, EntryOf}
use Rattle.conditions.specs.AskedLaws.{synthesized_entry, synthesized-entry}
use Rattle.conditions.specs.Answers.{answers-same}
use Rattle.conditions.specs.Chains.{all_places}
use Rattle.conditions.specs.DeclaredTests.{definition_declared}
use Rattle.conditions.specs.DeclaredLaws.{synthesized-lines}
use Rattle.conditions.proofs.declared.synthesized_declared.Goals as goal

pub all-requires-clause-callable : goal.all-requires-clause-callable
all-requires-clause-callable c = let (b, H) = c.requires in
    let n = H.rules_of.counted in
    serves_from_Range (λ i q k. search (rules, tests)) (λ i l h.
    let there : (x : Entry) × EntryOf c.args.book c.args.rules.now c.args.definitions.now (c.args.book.inherited_definitions + i) x =
    (synthesized_entry b i, synthesized-entry H i n.inherited_definitions_are (omega (arith, n.synthesized_definitions_are))) in search rules)

pub returns : goal.returns
returns c = answers-same (λ b h. synthesized-lines h.rules_of.counted)
    (all_places (λ b i. definition_declared c.args.book.synthesized (synthesized_entry b i))
    (λ i b. EntryOf c.args.book c.args.rules.now c.args.definitions.now (c.args.book.inherited_definitions + i) (synthesized_entry b i)) _
    (λ b h i l. let n = h.rules_of.counted in
    synthesized-entry h i n.inherited_definitions_are (omega (arith, n.synthesized_definitions_are)))
    _ _ _ c.all.ensures.ran (λ i q k. search (rules, tests)) (λ i q k. search (rules, tests)))
