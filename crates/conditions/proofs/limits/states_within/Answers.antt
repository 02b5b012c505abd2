use Prim.Native.Nat.{◌+◌, ◌*◌}
use mathlib.Core.Path.{◌∙◌}
use mathlib.Core.Bool.{not}
use lib.ListN.{get_or}
use lib.Dec.{eqb}
use borrow.Author.Tests.{tests}
use Rattle.std.proofs.Common.{rules}
use Rattle.conditions.specs.Chains.{all_numbers}
use Rattle.conditions.specs.LimitLaws.{states-lines}
use Rattle.conditions.proofs.limits.states_within.Goals as goal

pub returns : goal.returns
returns c = let kernels = c.args.kernels.now in record {
  for_all = λ ks h.
      all_numbers (λ i. not (eqb (get_or kernels (5 * i) 0) (get_or kernels (5 * (i + 16)) 0))) _ _ _ _ c.all.ensures.ran
      (λ i q k. search (rules, tests)) (λ i q k. search (rules, tests))
      ∙ rw c.saturating_sub.ensures (states-lines ks h);
}
