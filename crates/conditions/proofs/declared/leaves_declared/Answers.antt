use mathlib.Core.Path.{◌∙◌}
use borrow.Author.Tests.{tests}
use Prim.Native.Nat.{◌+◌, ◌*◌}
use Rattle.std.proofs.Common.{rules}
use Rattle.conditions.specs.Chains.{all_numbers}
use Rattle.conditions.specs.DeclaredLaws.{leaves-asked}
use Rattle.conditions.specs.DeclaredTests.{place_code}
use Rattle.conditions.specs.Places.{place_in}
use Rattle.conditions.proofs.declared.leaves_declared.Goals as goal

pub returns : goal.returns
returns c = let a = c.args in record {
  for_all = λ x h.
      all_numbers (λ j. place_code a.book a.size (place_in a.definitions.now (49 * a.i + 4 + 3 * j))) _ _ _ _ c.all.ensures.ran (λ j q k. search (rules, tests))
      (λ j q k. search (rules, tests))
      ∙ leaves-asked h;
}
