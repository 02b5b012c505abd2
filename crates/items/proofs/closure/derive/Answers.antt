use Prim.Native.Nat.{◌+◌, ◌*◌, ◌<◌}
use native.Mathlib.Omega.{arith}
use lib.ListN.{get_or}
use Rattle.grammar.specs.Automaton.LeastLaws.{Family}
use Rattle.items.specs.Derives.{told_none, told-end, told-terminal, told-given, rest-within, word_low}
use Rattle.items.proofs.closure.derive.Goals as goal
use Rattle.items.proofs.closure.derive.Goals.{After-slice_known-1}

-- the words lent are sets
family : (c : After-slice_known-1) → Family 32 c.args.looks.now
family c = record { long = c.requires.1; low = λ i. (c.slice_known-1.given i).fits }

pub returns-then-own-eq0 : goal.returns-then-own-eq0
returns-then-own-eq0 c =
    let a = c.args in λ b F H p. told_none H (family (goal.at.returns-then-own-eq0 c).After-slice_known-1) a.rule a.dot a.own p c.if-own-eq0.true

pub returns-then-word-dot : goal.returns-then-word-dot
returns-then-word-dot c =
    let a = c.args in
    λ b F H p. told-end H (family (goal.at.returns-then-word-dot c).After-slice_known-1) a.rule a.dot a.own p (omega (arith, c.word.ensures))

pub returns-then-next-lt32 : goal.returns-then-next-lt32
returns-then-next-lt32 c =
    let a = c.args in
    λ b F H p.
    told-terminal H (family (goal.at.returns-then-next-lt32 c).After-slice_known-1) a.rule a.dot a.own p
    (omega (arith, c.word.ensures, c.if-word-dot.false)) c.if-next-lt32.true

pub give-requires : goal.give-requires
give-requires c = omega (
  arith,
  c.requires.1,
  c.if-next-lt32.false,
  word_low c.requires.0.2 c.args.rule c.args.dot c.requires.0.3
      (omega (arith, c.word.ensures, c.if-word-dot.false)),
)

pub returns : goal.returns
returns c =
    let a = c.args in
    λ b F H p.
    let d : a.dot < get_or a.rules.now (10 * a.rule + 1) 0 = omega (
      arith,
      c.word.ensures,
      c.if-word-dot.false,
    ) in
    told-given H (family (goal.at.returns c).After-slice_known-1) a.rule a.dot a.own p d
    c.if-own-eq0.false c.if-next-lt32.false
    (c.first_with.ensures b.rules F H.rests_in p (rest-within H a.rule a.dot p d)) c.give.ensures
