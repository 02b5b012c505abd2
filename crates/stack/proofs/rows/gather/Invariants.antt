use Rattle.book.specs.LayoutLaws.{Writing}
use Rattle.stack.specs.Lists.{gathered}
use Rattle.stack.proofs.rows.gather.Given as goal

abbrev pub invariant-loop-i : goal.invariant-loop-i
invariant-loop-i l = Writing l.place (gathered l.lists l.owner l.source l.from) l.initial.rows l.i l.rows
