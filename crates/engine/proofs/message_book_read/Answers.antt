use Rattle.book.specs.Refusals.{answer_of}
use Rattle.engine.proofs.message_book_read.Goals as goal

pub returns-in-Ok : goal.returns-in-Ok
unfolding answer_of
returns-in-Ok c = c.in-Ok.ensures

pub returns-in-Err : goal.returns-in-Err
unfolding answer_of
returns-in-Err c = rw c.number.ensures c.in-Err.ensures
