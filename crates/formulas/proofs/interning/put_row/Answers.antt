use Rattle.std.proofs.Common.{arith, ◌∙◌, sym}
use Rattle.std.proofs.lemmas.Slice.{put_mid-paste}
use Rattle.formulas.specs.Rows.{stored-copied}
use Rattle.formulas.proofs.interning.put_row.Goals as goal

pub returns : goal.returns
returns c =
    let r = c.args.row in
    put_mid-paste _ _ _ _ _ 4 c.copy_from_slice.ensures.after (omega arith) (omega arith)
    ∙ sym (stored-copied c.args.table.now c.args.i r.kind r.first r.second r.third c.requires)
