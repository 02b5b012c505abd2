use native.Mathlib.Omega.{arith}
use Rattle.messages.specs.Zeros.{zeros}
use Rattle.attempts.specs.Rooms.{short-arrays}
use Rattle.attempts.specs.Stored.{found-text}
use Rattle.arrays.proofs.evaluating.short.Goals as goal

pub attempt-requires : goal.attempt-requires
attempt-requires c = let e = c.short_room.ensures in (
  (_, found-text c.requires.0 c.requires.1 c.unpack.ensures (omega (arith, c.requires.2, c.unpack.auto.text, zeros 4096))),
  omega (arith, c.requires.2, zeros 1024),
  rw e (omega (arith, zeros 1024)),
  rw e (omega (arith, c.unpack.auto.text, zeros 4096)),
  rw e short-arrays,
)
