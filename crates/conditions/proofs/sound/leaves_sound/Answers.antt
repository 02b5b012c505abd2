use mathlib.Core.Path.{◌≡◌, ◌∙◌}
use mathlib.Core.Bool.{true, ◌&&◌}
use Prim.Native.Nat.{◌+◌, ◌*◌}
use native.Mathlib.Omega.{arith}
use lib.ListN.{get_or}
use borrow.Author.Tests.{tests}
use Rattle.std.proofs.Common.{rules}
use Rattle.std.proofs.lemmas.Iterator.{serves_from_Range}
use Rattle.conditions.specs.Asked.{PlaceThere}
use Rattle.conditions.specs.Chains.{all_numbers}
use Rattle.conditions.specs.DeclaredTests.{place_code}
use Rattle.conditions.specs.Places.{place_in}
use Rattle.conditions.specs.SoundLines.{place-in-reach, leaves-sound-asked}
use Rattle.conditions.specs.SoundTests.{owned_code}
use Rattle.conditions.proofs.sound.leaves_sound.Goals as goal

pub all-requires-clause-callable : goal.all-requires-clause-callable
all-requires-clause-callable c = let (x, H) = c.requires in
    let a = c.args in
    serves_from_Range (λ j q k. search (rules, tests)) (λ j l h.
    let reach : place_code a.book a.size (place_in a.definitions.now (49 * a.i + 4 + 3 * j)) ≡ true
    → PlaceThere a.inherited.now a.synthesized.now a.rules.now (get_or a.definitions.now (49 * a.i) 0) (place_in a.definitions.now (49 * a.i + 4 + 3 * j)) =
    place-in-reach H j (omega (arith, H.leaves_of.line_is.line_in.nodes_is)) in search rules)

pub returns : goal.returns
returns c = let a = c.args in record {
  for_all = λ x h.
      all_numbers (λ j. place_code a.book a.size (place_in a.definitions.now (49 * a.i + 4 + 3 * j))
      && owned_code a.inherited.now a.synthesized.now a.rules.now (get_or a.definitions.now (49 * a.i) 0) a.limit (place_in a.definitions.now (49 * a.i + 4 + 3 * j)))
      _ _ _ _ c.all.ensures.ran (λ j q k. search (rules, tests)) (λ j q k. search (rules, tests))
      ∙ leaves-sound-asked a.limit h;
}
