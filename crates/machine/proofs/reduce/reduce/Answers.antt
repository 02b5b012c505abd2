use native.Mathlib.Omega.{arith}
use Rattle.book.specs.Refusals.{number_of}
use Rattle.machine.specs.MovingLaws.{reduce-rows}
use Rattle.machine.specs.ReduceMove.{reduce-low, reduce-deep, reduce-full, reduce-left}
use Rattle.machine.proofs.reduce.reduce.Goals as goal

pub returns-then-top-eq-MAX_ROWS-clause-moved : goal.returns-then-top-eq-MAX_ROWS-clause-moved
unfolding number_of
returns-then-top-eq-MAX_ROWS-clause-moved c = λ b ks k B F H X. record { tells = reduce-rows B _ H.config_in X.action_is c.if-top-eq-MAX_ROWS.true }

pub word-requires : goal.word-requires
word-requires c =
    let s = c.requires.book_in in
    omega (arith, (reduce-low s.3 s.5 s.6).rule_there, s.3.rules_in.long)

pub overflow_sub-below : goal.overflow_sub-below
overflow_sub-below c = let p = c.requires.book_in in reduce-deep p.3 p.5 p.6 c.word.ensures

pub returns-then-below-eq-MAX_STACK-clause-moved : goal.returns-then-below-eq-MAX_STACK-clause-moved
unfolding number_of
returns-then-below-eq-MAX_STACK-clause-moved c = λ b ks k B F H X.
    record { tells = reduce-full B H X c.word.ensures c.requires.room.0.starts_long c.if-top-eq-MAX_ROWS.false c.if-below-eq-MAX_STACK.true }

pub put_left-requires-clause-left_asked : goal.put_left-requires-clause-left_asked
put_left-requires-clause-left_asked c = let (b, ks, k, B, F, H, X) = c.requires.book_in in
    (b, ks, k, reduce-left B H X c.word.ensures F c.requires.room.0.starts_long c.if-top-eq-MAX_ROWS.false c.if-below-eq-MAX_STACK.false)

pub returns-clause-moved : goal.returns-clause-moved
returns-clause-moved c = λ b ks k B F H X.
    record { tells = c.put_left.ensures.goes b ks k (reduce-left B H X c.word.ensures F c.requires.room.0.starts_long c.if-top-eq-MAX_ROWS.false c.if-below-eq-MAX_STACK.false) }
