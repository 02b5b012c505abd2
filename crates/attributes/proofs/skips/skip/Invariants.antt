use Rattle.attributes.specs.Skips.{Skip, SkipsFrom}
use Rattle.attributes.proofs.skips.skip.Given as goal

abbrev pub invariant-loop-i : goal.invariant-loop-i
invariant-loop-i l = SkipsFrom l.definitions l.masks l.wanted l.lines l.i l.skips × Skip l.definitions l.masks l.wanted l.lines l.i l.next
