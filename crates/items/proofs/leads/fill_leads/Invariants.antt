use mathlib.Core.Path.{◌≡◌}
use lib.ListN.{get_or}
use Rattle.items.specs.Leads.{Leading}
use Rattle.items.proofs.leads.fill_leads.Given as goal

abbrev pub invariant-loop-rule : goal.invariant-loop-rule
invariant-loop-rule l = (l.lead ≡ get_or l.leads l.rule 0) × Leading l.rules l.count l.leads l.rule
