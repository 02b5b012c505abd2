use Prim.Native.Nat.{ℕ, ◌-◌, ◌+◌, ◌<◌}
use native.Mathlib.Omega.{arith}
use Rattle.std.proofs.lemmas.List.{get_or-take, get_or-drop}
use Rattle.std.proofs.Common.{length-take}
use Rattle.items.specs.NoItems.{nothing-more}
use Rattle.items.proofs.words.nothing.Goals as goal

pub loop-word-preserved : goal.loop-word-preserved
loop-word-preserved c = let at = c.loop-word in
    let i : at.word-index < c.args.first + 32 - c.args.first = omega (arith, c.loop-word-test.true, length-take {A = ℕ}) in
    λ e. nothing-more c.args.words.now c.args.first at.word-index at.bits at.invariant (rw (get_or-take, get_or-drop) at e)
