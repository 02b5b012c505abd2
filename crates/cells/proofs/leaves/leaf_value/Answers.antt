use Rattle.std.proofs.Common.{◌≡◌, ◌+◌, ◌-◌, ◌*◌, ◌<◌, ◌≤◌, get_or, sym, ap, ◌∙◌, arith}
use Rattle.cells.specs.FramesLaws.{cell-word, record-word}
use Rattle.cells.proofs.leaves.leaf_value.Goals as goal

pub returns-in-Inherited : goal.returns-in-Inherited
returns-in-Inherited c =
    let cell : (c.in-Attribute.offset ≤ c.args.height)
    × (c.in-Attribute.attribute < 16) = rw (c.in-Attribute.is, c.in-Inherited.is) at c.requires.1 in
    let below = c.in-Attribute.offset in
    let k = c.in-Attribute.attribute in
    rw (c.in-Attribute.is, c.in-Inherited.is)
    (c.word.ensures ∙ sym (cell-word c.args.inherited.now (c.args.height - below) k (cell).1))

pub returns-in-Synthesized : goal.returns-in-Synthesized
returns-in-Synthesized c =
    let attribute : (c.in-Attribute.offset < c.args.height)
    × (c.in-Attribute.attribute < 32) = rw (c.in-Attribute.is, c.in-Synthesized.is) at c.requires.1 in
    let below = c.in-Attribute.offset in
    let k = c.in-Attribute.attribute in
    let place : 33 * (c.args.height - 1 - below) + (1 + k) ≡ 33 * (c.args.height - 1 - below) + 1 + k = omega arith in
    rw (c.in-Attribute.is, c.in-Synthesized.is)
    (c.word-in-Synthesized.ensures ∙ ap (λ n. get_or c.args.synthesized.now n 0) place
    ∙ sym (record-word c.args.synthesized.now (c.args.height - 1 - below) k (attribute).1))
