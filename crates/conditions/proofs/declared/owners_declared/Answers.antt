use borrow.Author.Tests.{tests}
use Rattle.std.proofs.Common.{rules}
use Rattle.grammar.specs.Conditions.Decides.{one_to}
use Rattle.conditions.specs.Chains.{all_items}
use Rattle.conditions.proofs.declared.owners_declared.Goals as goal

pub returns : goal.returns
returns c = all_items (one_to c.args.n) _ _ _ _ (cc) c.all.ensures.ran (λ x q k. search (rules, tests)) (λ x q k. search (rules, tests))
