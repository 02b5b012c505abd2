use Rattle.std.proofs.Common.{ℕ, List, length, get_or, ap, ◌∙◌, arith}
use Rattle.cells.specs.LeavesLaws.{part-long, part_at}
use Rattle.cells.proofs.leaves.word.Goals as goal

pub bounds-r-k : goal.bounds-r-k
bounds-r-k c = omega (arith, ap length c.record-r.ensures, part-long _ _ c.args.stack c.args.at c.requires.0, c.requires.1)

pub returns : goal.returns
returns c = ap (λ (l : List ℕ). get_or l c.args.k 0) c.record-r.ensures
    ∙ part_at c.args.inherited.now c.args.synthesized.now c.args.stack c.args.at c.args.k c.requires.1
