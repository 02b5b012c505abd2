use mathlib.Core.Path.{refl}
use Rattle.packing.specs.UnpackingLoops.{copied-four}
use Rattle.packing.proofs.unpacking.put_four.Goals as goal

pub returns : goal.returns
returns c = λ copied.
    copied-four c.requires.0 c.requires.1 refl c.put_whole.ensures c.put_whole-2.ensures c.put_whole-3.ensures
    c.put_whole-4.ensures copied
