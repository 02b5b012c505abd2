use Prim.Native.Nat.{◌+◌}
use native.Mathlib.Omega.{arith}
use borrow.Author.Tests.{tests}
use Rattle.std.proofs.Common.{rules}
use Rattle.std.proofs.lemmas.Iterator.{serves_from_Range}
use Rattle.conditions.specs.Asked.{Entry, LineThere}
use Rattle.conditions.specs.AskedLaws.{synthesized_entry}
use Rattle.conditions.specs.Answers.{answers-same}
use Rattle.conditions.specs.Chains.{all_places}
use Rattle.conditions.specs.SoundTests.{synthesized_line_sound}
use Rattle.conditions.specs.SoundLines.{synthesized-line-there, synthesized-sound-lines}
use Rattle.conditions.proofs.sound.synthesized_sound.Goals as goal

pub all-requires-clause-callable : goal.all-requires-clause-callable
all-requires-clause-callable c = let (b, H) = c.requires in
    let a = c.args in
    let n = H.counted in
    serves_from_Range (λ i q k. search (rules, tests)) (λ i l h.
    let there : (x : Entry) × LineThere a.book a.inherited.now a.synthesized.now a.rules.now a.definitions.now (a.book.inherited_definitions + i) x =
    (synthesized_entry b i, synthesized-line-there H i n.inherited_definitions_are (omega (arith, n.synthesized_definitions_are))) in search rules)

pub returns : goal.returns
returns c = let a = c.args in
    answers-same (λ b h. synthesized-sound-lines h.counted)
    (all_places (λ b i. synthesized_line_sound (synthesized_entry b i))
    (λ i b. LineThere a.book a.inherited.now a.synthesized.now a.rules.now a.definitions.now (a.book.inherited_definitions + i) (synthesized_entry b i)) _
    (λ b h i l. synthesized-line-there h i h.counted.inherited_definitions_are (omega (arith, h.counted.synthesized_definitions_are)))
    _ _ _ c.all.ensures.ran (λ i q k. search (rules, tests)) (λ i q k. search (rules, tests)))
