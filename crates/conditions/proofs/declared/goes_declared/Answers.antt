use mathlib.Core.Path.{◌∙◌}
use mathlib.Core.Bool.{◌&&◌}
use Prim.Native.Nat.{◌+◌, ◌*◌}
use lib.ListN.{get_or}
use lib.Dec.{ltb}
use borrow.Author.Tests.{tests}
use Rattle.std.proofs.Common.{rules}
use Rattle.conditions.specs.Chains.{all_numbers}
use Rattle.conditions.specs.DeclaredLaws.{goes_asked}
use Rattle.conditions.specs.DeclaredTests.{go_code}
use Rattle.conditions.proofs.declared.goes_declared.Goals as goal

pub returns : goal.returns
returns c = let a = c.args in record {
  for_all = λ b h.
      all_numbers (λ i. (ltb (get_or a.goes.now (3 * i) 0) a.book.states && go_code a.book (get_or a.goes.now (3 * i + 1) 0))
      && ltb (get_or a.goes.now (3 * i + 2) 0) a.book.states) _ _ _ _ c.all.ensures.ran
      (λ i q k. search (rules, tests)) (λ i q k. search (rules, tests))
      ∙ goes_asked h;
}
