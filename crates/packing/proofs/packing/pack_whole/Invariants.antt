use Rattle.packing.specs.PackingLoops.{Packing}
use Rattle.packing.proofs.packing.pack_whole.Given as goal

abbrev pub invariant-loop-i : goal.invariant-loop-i
invariant-loop-i l = Packing l.text l.initial.words l.words l.i
