use native.Mathlib.Omega.{arith}
use Rattle.std.proofs.Common.{sym, length-take-le}
use Rattle.messages.specs.Zeros.{zeros}
use Rattle.attempts.specs.Rooms.{short-arrays, words-lent}
use Rattle.arrays.proofs.reading.short.Goals as goal

pub slice_bounds-attempt-end-3 : goal.slice_bounds-attempt-end-3
slice_bounds-attempt-end-3 c = sym (length-take-le _ c.args.words.now (omega (arith, c.requires.1)))

pub attempt-requires : goal.attempt-requires
attempt-requires c = (
  omega (arith, c.requires.0),
  omega (arith, c.requires.0, zeros 1024),
  rw c.short_room.ensures (omega (arith, zeros 1024)),
  rw c.short_room.ensures (words-lent c.args.words.now c.requires.1 short-arrays),
)
