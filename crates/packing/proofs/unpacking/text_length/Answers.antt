use Rattle.std.proofs.Common.{◌≡◌, ◌+◌, ◌-◌, arith, rules}
use Rattle.packing.specs.Words.{bytes_of}
use Rattle.packing.specs.UnpackingLoops.{holds_at, holds-nothing}
use Rattle.packing.proofs.unpacking.text_length.Goals as goal

pub overflow_add-result : goal.overflow_add-result
unfolding bytes_of
overflow_add-result c = search (rules, c.word_length.ensures.1.within)

pub returns-then-words-i-ne0 : goal.returns-then-words-i-ne0
returns-then-words-i-ne0 c = let loop = c.loop-i in
    let next : loop.i - 1 + 1 ≡ loop.i = omega (arith, c.loop-i-test.true) in
    holds_at c.args.words.now (λ i. (c.type_inv.words i).fits) (loop.i - 1) c.word_length.result
    (omega (arith, c.loop-i-test.true, loop.invariant.0)) (rw next loop.invariant.1) c.word_length.ensures.0 c.word_length.ensures.1

pub returns : goal.returns
returns c = let loop = c.loop-i in
    let none : loop.i ≡ 0 = omega (arith, c.loop-i-test.false) in
    holds-nothing c.args.words.now (λ i. (c.type_inv.words i).fits) (rw none at loop.invariant.1)
