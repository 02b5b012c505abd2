use Prim.Native.Nat.{◌+◌, ◌*◌, ◌<◌}
use native.Mathlib.Omega.{arith}
use mathlib.Core.Path.{sym, ◌∙◌}
use lib.ListN.{length}
use Rattle.attributes.specs.MarkLines.{item-place, item-rule, item-dot}
use Rattle.plans.specs.FoundLines.{first-within, line-none, line-idle, line-found}
use Rattle.plans.proofs.members.kernel_line.Goals as goal

pub returns-in_default : goal.returns-in_default
returns-in_default c = λ b F R begins rules owned masks items ordered C e L h N T P M.
    line-none L c.args.i h c.word-rule.ensures c.word-dot.ensures P c.word.ensures M (omega (arith, c.in_default.ensures))

pub returns-then-not-has : goal.returns-then-not-has
returns-then-not-has c = λ b F R begins rules owned masks items ordered C e L h N T P M.
    let i = c.args.i in
    let rule = c.word-rule.ensures in
    let dot = c.word-dot.ensures in
    line-idle L i h rule dot P c.word.ensures M
    (c.reach_with-reach.ensures b.rules F R begins N T (item-rule L i h rule dot) (item-dot L i h rule dot))
    (sym c.has.ensures ∙ c.if-not-has.true)

pub item_lines-requires : goal.item_lines-requires
item_lines-requires c =
    let (b, rules, owned, masks, C, e, L, h, room, P) = c.requires.0 in
    let within : 9 * c.word-rule.result + c.word-dot.result < 9 * length b.rules = item-place L c.args.i h c.word-rule.ensures c.word-dot.ensures in
    let last = first-within P c.word-rule.result c.word-dot.result c.word.ensures (λ z. omega (arith, c.in-Some.ensures)) in
    ((b, rules, owned, masks, C, e), omega (arith, last, e, c.in-Some.ensures), omega (arith, within, C.rules_in.fits), c.requires.2)

pub returns : goal.returns
returns c = λ b F R begins rules owned masks items ordered C e L h N T P M.
    let i = c.args.i in
    let rule = c.word-rule.ensures in
    let dot = c.word-dot.ensures in
    line-found L i h rule dot P c.word.ensures M
    (c.reach_with-reach.ensures b.rules F R begins N T (item-rule L i h rule dot) (item-dot L i h rule dot))
    ordered C e (λ z. omega (arith, c.in-Some.ensures)) (sym c.has.ensures ∙ c.if-not-has.false)
    (rw c.in-Some.ensures.1 at (c.item_lines.ensures b rules owned masks C e))
