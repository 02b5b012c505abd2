use borrow.Author.Rules.{rules}
use Rattle.items.specs.Leads.{derives_code}
use Rattle.items.proofs.leads.derives.Goals as goal

pub returns : goal.returns
unfolding derives_code
returns c = search rules
