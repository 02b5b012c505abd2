use Rattle.console.proofs.Settled.{settled-end}
use Rattle.console.specs.Printing.{printed-same}
use Rattle.console.specs.Holds.{held-book, held-refused}
use Rattle.desk.specs.Answers.{book-answered}
use mathlib.Core.Path.{sym}
use Rattle.desk.proofs.answer.answer.Goals as goal

pub returns-in-Book : goal.returns-in-Book
returns-in-Book c = λ i h.
    printed-same (book-answered (held-book _ _ i c.in-Book.is h))
    c.respond.ensures

pub returns-in-Refused : goal.returns-in-Refused
returns-in-Refused c = λ i h.
    printed-same (sym (settled-end (held-refused _ _ i c.in-Refused.is h)))
    (rw c.number.ensures at c.put_refused.ensures)
