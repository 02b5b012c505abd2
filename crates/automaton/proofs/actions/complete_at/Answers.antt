use native.Mathlib.Omega.{arith}
use Rattle.automaton.specs.ActionRows.{complete-turn}
use Rattle.automaton.proofs.actions.complete_at.Goals as goal

pub returns : goal.returns
returns c = λ terminals cells few low row.
    let given = c.has-given in
    rw c.acted.ensures
    (complete-turn c.args.a cells c.args.rule c.args.set row few (omega (arith, c.requires.0, c.requires.1)) c.requires.2 given.result
    given.ensures low)
