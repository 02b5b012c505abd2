use Rattle.std.proofs.Common.{sym}
use Rattle.cells.specs.ValuesLaws.{choose-last, choose-first}
use Rattle.cells.proofs.values.pick.Goals as goal

pub returns-then-c-eq0 : goal.returns-then-c-eq0
returns-then-c-eq0 c = sym (choose-last _ c.args.x c.args.y c.if-c-eq0.true)

pub returns-else-c-eq0 : goal.returns-else-c-eq0
returns-else-c-eq0 c = sym (choose-first _ c.args.x c.args.y c.if-c-eq0.false)
