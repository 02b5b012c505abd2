use Rattle.book.specs.Refusals.{answer_of, number_of, answer-none, answer-some, handed_on}
use Rattle.compiler.specs.Compiling.{asked-fronts, attributes-counted, rules_few, checked_refused, checked-formulas, checked-all}
use native.Mathlib.Omega.{arith}
use Rattle.compiler.proofs.compile.check.Goals as goal

pub returns-in_err-prepare-clause-checked : goal.returns-in_err-prepare-clause-checked
returns-in_err-prepare-clause-checked c = λ b h. rw (handed_on _ c.from_residual.result c.in_err-prepare.was c.from_residual.ensures.1) (checked_refused (c.prepare.ensures.prepared b h) (answer-some c.in_err-prepare.was))

pub fill_givers-leaders-requires : goal.fill_givers-leaders-requires
fill_givers-leaders-requires c = let (b, h) = c.requires.some in
    let P = c.prepare.ensures.prepared b h in
    let none = answer-none c.in_ok-prepare.was in
    let R = P.ready none in
    let room = c.requires.tables_room.begins_long (rules_few R) in (
      (b, _, _, _, _, _, _, _, _, _, (asked-fronts R (P.fronts_in none)).formulas_held),
      omega (arith, room, c.prepare.ensures.stay.1.0),
    )

pub formulas_right-requires : goal.formulas_right-requires
formulas_right-requires c = let (b, h) = c.requires.some in
    let P = c.prepare.ensures.prepared b h in
    let none = answer-none c.in_ok-prepare.was in
    let R = P.ready none in
    let H = asked-fronts R (P.fronts_in none) in
    (b, _, H, R.arrays_in.inherited-in, attributes-counted R, c.fill_givers-leaders.ensures b _ _ _ _ _ _ _ _ _ H.formulas_held)

pub returns-then-formulas_right-clause-checked : goal.returns-then-formulas_right-clause-checked
unfolding answer_of
returns-then-formulas_right-clause-checked c = λ b h.
    let P = c.prepare.ensures.prepared b h in
    let none = answer-none c.in_ok-prepare.was in
    let R = P.ready none in
    let H = asked-fronts R (P.fronts_in none) in
    let G = c.fill_givers-leaders.ensures b _ _ _ _ _ _ _ _ _ H.formulas_held in
    let f = c.formulas_right.ensures b _ H R.arrays_in.inherited-in (attributes-counted R) G in
    checked-all P none f c.if-formulas_right.true

pub returns-clause-checked : goal.returns-clause-checked
unfolding answer_of number_of
returns-clause-checked c = λ b h.
    let P = c.prepare.ensures.prepared b h in
    let none = answer-none c.in_ok-prepare.was in
    let R = P.ready none in
    let H = asked-fronts R (P.fronts_in none) in
    let G = c.fill_givers-leaders.ensures b _ _ _ _ _ _ _ _ _ H.formulas_held in
    let f = c.formulas_right.ensures b _ H R.arrays_in.inherited-in (attributes-counted R) G in
    checked-formulas P none f c.if-formulas_right.false
