use mathlib.Core.Path.{ap}
use mathlib.Core.Bool.{not}
use Prim.Native.Nat.{◌<◌}
use mathlib.Core.Path.{sym, ◌∙◌}
use native.Mathlib.Omega.{arith}
use Rattle.grammar.specs.Limits.{MAX_INHERITED}
use Rattle.plans.specs.Planning.{known_of}
use Rattle.plans.specs.DueLaws.{slots_for}
use Rattle.plans.specs.PlanRowsLaws.{elsewhere-same, elsewhere-set, known-slots, visit-set, visit-waits, count_low, visit-sets}
use Rattle.plans.proofs.planning.visit.Goals as goal
use Rattle.plans.proofs.planning.visit.Goals.{Else-has}

-- there is room for a line more
room : (c : Else-has) → c.args.p.count < MAX_INHERITED
room c = let g = c.requires in
    count_low g.4 g.5 g.3 g.7 (sym c.has.ensures ∙ c.if-has.false)

pub returns-then-has : goal.returns-then-has
returns-then-has c = (λ b member masks s H l own R. visit-set H l s R (sym c.has.ensures ∙ c.if-has.true), elsewhere-same)

pub returns-then-not-ready : goal.returns-then-not-ready
returns-then-not-ready c = (
  λ b member masks s H l own R. visit-waits H l own s R (c.ready.ensures b (slots_for (known_of s)) masks H l (known-slots s R)) (ap not c.if-not-ready.true),
  elsewhere-same,
)

pub ready-requires : goal.ready-requires
ready-requires c = let g = c.requires in (g.0, slots_for (known_of g.3), g.2, g.4, g.5, known-slots g.3 g.7)

pub overflow_add-row : goal.overflow_add-row
overflow_add-row c =
    omega (arith, (room (goal.at.overflow_add-row c).Else-has), c.requires.7.room)

pub bounds-row-from : goal.bounds-row-from
bounds-row-from c =
    omega (arith, (room (goal.at.bounds-row-from c).Else-has), c.requires.7.room)

pub overflow_add-result : goal.overflow_add-result
overflow_add-result c =
    omega (arith, (room (goal.at.overflow_add-result c).Else-has))

pub returns : goal.returns
returns c = (
  λ b member masks s H l own R.
      rw c.with.ensures
      (visit-sets H l own s R (sym c.has.ensures ∙ c.if-has.false)
      (c.ready.ensures b (slots_for (known_of s)) masks H l (known-slots s R)) (ap not c.if-not-ready.false)),
  elsewhere-set _ _ _ _ _ (omega arith) (omega (arith, (room (goal.at.returns c).Else-has))),
)
