use native.Mathlib.Omega.{arith}
use Rattle.packing.specs.WordsLaws.{bytes-length}
use Rattle.messages.specs.Zeros.{zeros}
use Rattle.attempts.specs.Rooms.{full-arrays}
use Rattle.attempts.specs.Stored.{found-text}
use Rattle.arrays.proofs.evaluating.long.Goals as goal

pub unpack-requires : goal.unpack-requires
unpack-requires c = (
  omega (arith, c.requires.0, c.requires.1.ends.within, bytes-length c.args.words.now, zeros 65536),
  omega (arith, zeros 65536),
  omega (arith, c.requires.0, zeros 65536),
)

pub attempt-requires : goal.attempt-requires
attempt-requires c = let e = c.full.ensures in (
  (_, found-text c.requires.0 c.requires.1 c.unpack.ensures (omega (arith, c.requires.0, c.requires.1.ends.within, bytes-length c.args.words.now, c.unpack.auto.text, zeros 65536))),
  omega (arith, c.requires.0, c.requires.1.ends.within, bytes-length c.args.words.now, zeros 13107),
  rw e (omega (arith, zeros 13107)),
  rw e (omega (arith, c.unpack.auto.text, zeros 65536)),
  rw e full-arrays,
)
