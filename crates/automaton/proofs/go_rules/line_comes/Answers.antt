use mathlib.Core.Path.{◌∙◌}
use native.Mathlib.Omega.{arith}
use borrow.Author.Tests.{eq-eqb}
use Rattle.grammar.specs.Automaton.CoreItems.{core_items}
use Rattle.book.specs.Held.{go_at}
use Rattle.automaton.specs.Comes.{go-declared, state_there, goal-there, goal-range, goal-bare, goal-comes}
use Rattle.automaton.proofs.go_rules.line_comes.Goals as goal

pub word-first-requires : goal.word-first-requires
word-first-requires c = omega (arith, goal-there c.requires.2.states_in c.requires.3 c.requires.4 c.word-target.ensures, c.requires.2.states_in.bounds_in.long)

pub word-last-requires : goal.word-last-requires
word-last-requires c = omega (arith, goal-there c.requires.2.states_in c.requires.3 c.requires.4 c.word-target.ensures, c.requires.2.states_in.bounds_in.long)

pub returns-else-first-last : goal.returns-else-first-last
returns-else-first-last c = λ b F h g l.
    rw (eq-eqb _ _ c.if-first-last.false)
    (goal-bare h.states_in g l c.word-target.ensures c.word-first.ensures c.word-last.ensures (core_items b F) c.if-first-last.false)

pub all_come-requires : goal.all_come-requires
all_come-requires c = let range = goal-range c.requires.2.states_in c.requires.3 c.requires.4 c.word-target.ensures
    c.word-first.ensures c.word-last.ensures in (
      c.requires.0,
      c.requires.1,
      c.requires.2,
      state_there c.requires.2.states_in c.requires.3 c.requires.4 c.word-state.ensures,
      range.ordered,
      range.within,
    )

pub returns-then-first-last : goal.returns-then-first-last
returns-then-first-last c = λ b F h g l.
    let state_is = c.word-state.ensures in
    let target_is = c.word-target.ensures in
    let range = goal-range h.states_in g l target_is c.word-first.ensures c.word-last.ensures in
    goal-comes h.states_in g l target_is c.word-first.ensures c.word-last.ensures (core_items b F)
    c.if-first-last.true state_is
    (c.all_come.ensures b F (go_at b.goes c.args.i).symbol h (state_there h.states_in g l state_is) range.within
    (go-declared h.states_in g l).symbol_there (c.word-symbol.ensures ∙ g.symbol_is c.args.i l))
