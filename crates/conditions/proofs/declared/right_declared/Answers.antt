use mathlib.Core.Path.{◌∙◌}
use Prim.Native.Nat.{◌+◌, ◌*◌}
use lib.ListN.{get_or}
use borrow.Author.Tests.{tests}
use Rattle.std.proofs.Common.{rules}
use Rattle.conditions.specs.Chains.{all_numbers}
use Rattle.conditions.specs.DeclaredLaws.{right-asked}
use Rattle.conditions.specs.DeclaredTests.{right_code}
use Rattle.conditions.proofs.declared.right_declared.Goals as goal

pub returns : goal.returns
returns c = let a = c.args in record {
  for_all = λ b h.
      all_numbers (λ d. right_code a.book (get_or a.rules.now (10 * a.p + 2 + d) 0)) _ _ _ _ c.all.ensures.ran
      (λ d q k. search (rules, tests)) (λ d q k. search (rules, tests))
      ∙ right-asked h;
}
