use native.Mathlib.Omega.{arith}
use Rattle.automaton.specs.StatesIn.{state-range}
use Rattle.agreement.specs.SingleState.{single-state}
use Rattle.agreement.proofs.single.single.Goals as goal

pub lines_apart-requires : goal.lines_apart-requires
lines_apart-requires c = let g = c.requires in
    let range = state-range g.3.states_in c.args.state g.5 in (
      (g.0, g.1, c.args.bounds.now, g.3.states_in, omega (arith, c.word-last.ensures, range.within), g.6),
      omega (arith, c.word-first.ensures, c.word-last.ensures, range.ordered),
    )

pub returns : goal.returns
returns c = λ e b rules closures o I W G s.
    let (all, K) = c.lines_apart.ensures e in
    single-state o I W G s c.word-first.ensures c.word-last.ensures c.in-Some.ensures K
