use Rattle.attributes.specs.MarkLines.{item-rule, item-dot, line-marks}
use Rattle.attributes.proofs.masks.mark_line.Goals as goal

pub returns : goal.returns
returns c = λ b F R begins items L l N T M.
    let i = c.args.i in
    let rule = c.word-rule.ensures in
    let dot = c.word-dot.ensures in
    rw (c.mark_item.ensures b.rules F R begins N T (item-rule L i l rule dot) (item-dot L i l rule dot)) (line-marks L i l rule dot M)
