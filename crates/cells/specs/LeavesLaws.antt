-- Laws of the words that leaves read. Assumes nothing.
use Rattle.std.specs.Prelude.{◌≡◌, ℕ, ◌+◌, ◌*◌, ◌<◌, ◌≤◌, List, length, take, drop, slice_index}
use Rattle.std.proofs.Common.{◌∙◌, arith, length-take, length-drop, get_or-take, get_or-drop}
use Rattle.formulas.specs.declared.nodes.Stack.{Stack}
use Rattle.formulas.specs.declared.nodes.Stack.TheVariants.{Inherited, Synthesized}
use Rattle.cells.specs.Leaves.{Has, width, part_of, word_of}

pub part-word : (w n k : ℕ) (xs : List ℕ) → k < w → slice_index (take w (drop n xs)) k ≡ slice_index xs (n + k)
part-word w n k xs h = get_or-take w (drop n xs) k 0 h ∙ get_or-drop n xs k 0

pub part-long : (inherited synthesized : List ℕ) (stack : Stack) (n : ℕ) → Has inherited synthesized stack n
    → length (part_of stack inherited synthesized n) ≡ width stack
part-long inherited synthesized Inherited n h = simp (length-take, length-drop) (omega arith)
part-long inherited synthesized Synthesized n h = simp (length-take, length-drop) (omega arith)

pub part_at : (inherited synthesized : List ℕ) (stack : Stack) (n k : ℕ) → k < width stack
    → slice_index (part_of stack inherited synthesized n) k ≡ word_of stack inherited synthesized n k
part_at inherited synthesized Inherited n k h = part-word 16 (16 * n) k inherited h
part_at inherited synthesized Synthesized n k h = part-word 33 (33 * n) k synthesized h

pub width_small : (stack : Stack) → width stack ≤ 33
width_small Inherited = omega arith
width_small Synthesized = omega arith
