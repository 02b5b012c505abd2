use Rattle.std.proofs.lemmas.Result.{err_from_is_err_and}
use Rattle.book.specs.Refusals.{answer_of}
use Rattle.desk.specs.Answers.{figured-refused, figured-evaluated}
use Rattle.desk.proofs.answer.figures.Goals as goal

pub returns-in_err-read : goal.returns-in_err-read
unfolding answer_of
returns-in_err-read c =
    let (_, is, same) = err_from_is_err_and c.from_residual.result c.from_residual.ensures.1 in
    rw (is, same) (figured-refused _ _ _ _ c.requires.words_long c.in_err-read.ensures)

pub returns : goal.returns
unfolding answer_of
returns c = figured-evaluated _ _ _ c.requires.words_long c.requires.rows_long c.in_ok-read.ensures c.evaluate.ensures
