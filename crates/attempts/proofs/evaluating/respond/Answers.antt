use Rattle.std.proofs.Common.{arith}
use Rattle.std.proofs.lemmas.Result.{err_from_is_err_and}
use Rattle.attempts.specs.Attempts.{book-taken, states-within, responds-none, responds-asked, responds-run}
use Rattle.attempts.proofs.evaluating.respond.Goals as goal

pub returns-in_default : goal.returns-in_default
returns-in_default c = λ room n text R. responds-none R c.in_default.is

pub returns-in_err-asked : goal.returns-in_err-asked
returns-in_err-asked c = λ room n text R.
    let (_, is, same) = err_from_is_err_and c.from_residual.result c.from_residual.ensures.1 in rw (is, same) (responds-asked R c.in-Ok.is c.in_err-asked.ensures)

pub message-requires : goal.message-requires
message-requires c = let (room, n, text, R, slots) = c.requires in
    let passed = c.in_ok-asked.ensures.says in
    record {
      some = book-taken R c.in-Ok.is;
      message = (passed.its_message, passed.all_rows, omega (arith, slots, states-within R c.in-Ok.is));
    }

pub returns : goal.returns
returns c = λ room n text R. responds-run R c.in-Ok.is _ c.in_ok-asked.ensures.says c.message.ensures
