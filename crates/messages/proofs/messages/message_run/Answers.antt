use native.Mathlib.Omega.{arith}
use Rattle.compiler.specs.Compiling.{asked-formulas}
use Rattle.plans.specs.PlansLaws.{none-listed}
use Rattle.messages.specs.Zeros.{no_words}
use Rattle.messages.specs.Sides.{asked-sides}
use Rattle.messages.specs.Driving.{places-asked, places-room, run_in, tokens-of, plans-of}
use Rattle.messages.proofs.messages.message_run.Goals as goal

pub fill_sides-requires-clause-some : goal.fill_sides-requires-clause-some
fill_sides-requires-clause-some c = (c.requires.some.0, asked-sides c.requires.some.1.ready)

pub mark_places-requires : goal.mark_places-requires
mark_places-requires c = let (b, t) = c.requires.some in
    (b, _, _, places-asked t (c.fill_sides.ensures b (asked-sides t.ready)), (asked-formulas t.ready).definitions-counted, places-room t)

pub run-requires-clause-run_in : goal.run-requires-clause-run_in
run-requires-clause-run_in c = let (b, t) = c.requires.some in
    let (m, _, long) = c.requires.message in
    let sides = c.fill_sides.ensures b (asked-sides t.ready) in
    let places = c.mark_places.ensures b _ _ (places-asked t sides) (asked-formulas t.ready).definitions-counted (places-room t) (no_words 608) in (
      b,
      m.list,
      run_in t sides places m.tokens_are,
      tokens-of t m,
      plans-of t _ long (c.fill.ensures.after (λ y e. e)) (none-listed 255 (omega arith) (omega arith)),
    )

pub returns : goal.returns
returns c = λ b t m. let (_, _, long) = c.requires.message in
    let sides = c.fill_sides.ensures b (asked-sides t.ready) in
    let places = c.mark_places.ensures b _ _ (places-asked t sides) (asked-formulas t.ready).definitions-counted (places-room t) (no_words 608) in
    c.run.ensures.answered b m.list (run_in t sides places m.tokens_are) (tokens-of t m)
    (plans-of t _ long (c.fill.ensures.after (λ y e. e)) (none-listed 255 (omega arith) (omega arith)))
