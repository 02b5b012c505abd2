use native.Mathlib.Omega.{arith}
use Prim.Native.Nat.{◌+◌, ◌-◌}
use lib.ListN.{length, drop}
use Rattle.std.proofs.lemmas.List.{take_all, length-drop}
use Rattle.conditions.specs.Often.{low-often, low-taken, high_taken}
use Rattle.conditions.proofs.limits.too_often.Goals as goal

pub returns-then-n-met : goal.returns-then-n-met
returns-then-n-met c = let h = c.requires in low-often h.0 h.1 (omega arith) (omega arith)

pub returns-then-word-lt32 : goal.returns-then-word-lt32
returns-then-word-lt32 c = let h = c.requires in low-taken h.0 h.1 (omega arith) (omega arith)

pub returns : goal.returns
returns c = let h = c.requires in
    let words = c.args.words.now in
    high_taken h.0 h.1 (omega arith) (rw (take_all (length words - (c.args.i + 1)) (drop (c.args.i + 1) words) (omega (arith, length-drop (c.args.i + 1) words))) at c.repeats.ensures)
