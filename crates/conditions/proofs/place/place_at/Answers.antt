use Rattle.std.proofs.Common.{rules}
use Rattle.conditions.specs.Places.{place-own, place_at, place-val, place_none}
use Rattle.conditions.proofs.place.place_at.Goals as goal

pub returns-in-1 : goal.returns-in-1
returns-in-1 c = place-own _ _ c.in-1.is

pub returns-in-2 : goal.returns-in-2
returns-in-2 c = place_at _ _ c.in-2.is

pub returns-in-3 : goal.returns-in-3
returns-in-3 c = place-val _ _ c.in-3.is

pub returns-in_default : goal.returns-in_default
returns-in_default c = place_none c.args.definitions.now c.args.k (search rules) (search rules) (search rules)
