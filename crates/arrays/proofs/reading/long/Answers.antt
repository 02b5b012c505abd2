use native.Mathlib.Omega.{arith}
use Rattle.std.proofs.Common.{sym, length-take-le}
use Rattle.messages.specs.Zeros.{zeros}
use Rattle.attempts.specs.Rooms.{full-arrays, words-lent}
use Rattle.arrays.proofs.reading.long.Goals as goal

pub slice_bounds-attempt-end-3 : goal.slice_bounds-attempt-end-3
slice_bounds-attempt-end-3 c = sym (length-take-le _ c.args.words.now (omega (arith, c.requires.1)))

pub attempt-requires : goal.attempt-requires
attempt-requires c = (
  omega (arith, c.requires.0),
  omega (arith, c.requires.0, zeros 13107),
  rw c.full.ensures (omega (arith, zeros 13107)),
  rw c.full.ensures (words-lent c.args.words.now c.requires.1 full-arrays),
)
