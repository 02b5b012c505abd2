use native.Mathlib.Omega.{arith}
use Rattle.formulas.specs.Nodes.{shown}
use Rattle.formulas.specs.Buckets.{hash-low, added}
use Rattle.formulas.proofs.interning.intern.Goals as goal

pub link-requires : goal.link-requires
link-requires c = let T = c.requires.0 in
    let low = hash-low (shown c.row_of-row.result) in
    (T.heads_long, T.nexts_low, c.requires.1, omega (arith, c.hash-bucket.ensures, low))

pub returns-clause-added : goal.returns-clause-added
returns-clause-added c = let r = c.row_of-row in
    let h = c.hash-bucket in
    let link = c.link in
    rw (c.put_row.ensures, link.ensures.heads_after, link.ensures.nexts_after)
    (added c.requires.0 r.result c.requires.1 c.in_default.ensures h.result h.ensures r.ensures)
