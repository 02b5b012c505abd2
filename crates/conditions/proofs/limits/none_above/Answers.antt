use Prim.Native.Nat.{◌+◌, ◌*◌}
use lib.ListN.{get_or}
use lib.Dec.{leb}
use borrow.Author.Tests.{tests}
use Rattle.std.proofs.Common.{rules}
use Rattle.conditions.specs.Chains.{all_numbers}
use Rattle.conditions.proofs.limits.none_above.Goals as goal

pub returns : goal.returns
returns c = let a = c.args in
    all_numbers (λ i. leb (get_or a.lines.now (a.size * i + a.at) 0) a.most) _ _ _ _ c.all.ensures.ran (λ i q k. search (rules, tests)) (λ i q k. search (rules, tests))
