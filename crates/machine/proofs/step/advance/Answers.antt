use Rattle.std.proofs.lemmas.Result.{err_from_is_err_and}
use Rattle.machine.specs.Running.{due-accept, due-shift, due-reduce}
use Rattle.machine.proofs.step.advance.Goals as goal

pub shift-requires : goal.shift-requires
shift-requires c = let (b, ks, k, R, H, F, N) = c.requires.moves_in in
    record { stacks = c.requires.room.0; by_index = (b, ks, k, _, _, _, R.book_in, H, due-shift N F c.in-Shift.is) }

pub reduce-requires-clause-book_in : goal.reduce-requires-clause-book_in
reduce-requires-clause-book_in c = let (b, ks, k, R, H, F, N) = c.requires.moves_in in
    (b, ks, k, R.book_in, R.left_in, H, due-reduce N c.in-Reduce.is)

pub returns-in_ok-shift-in-Shift-clause-told : goal.returns-in_ok-shift-in-Shift-clause-told
returns-in_ok-shift-in-Shift-clause-told c = λ b ks k R H F N.
    record { tells = (c.in_ok-shift-in-Shift.ensures b ks k _ _ _ R.book_in H (due-shift N F c.in-Shift.is)).tells }

pub returns-in_err-shift-in-Shift-clause-told : goal.returns-in_err-shift-in-Shift-clause-told
returns-in_err-shift-in-Shift-clause-told c =
    let p = err_from_is_err_and c.from_residual.result c.from_residual.ensures.1 in
    rw (p.1, p.2) (λ b ks k R H F N. record { tells = (c.in_err-shift-in-Shift.ensures b ks k _ _ _ R.book_in H (due-shift N F c.in-Shift.is)).tells })

pub returns-in_ok-reduce-in-Reduce-clause-told : goal.returns-in_ok-reduce-in-Reduce-clause-told
returns-in_ok-reduce-in-Reduce-clause-told c = λ b ks k R H F N.
    record { tells = (c.in_ok-reduce-in-Reduce.ensures.moved b ks k R.book_in R.left_in H (due-reduce N c.in-Reduce.is)).tells }

pub returns-in_err-reduce-in-Reduce-clause-told : goal.returns-in_err-reduce-in-Reduce-clause-told
returns-in_err-reduce-in-Reduce-clause-told c =
    let p = err_from_is_err_and c.from_residual-in_err-reduce-in-Reduce.result c.from_residual-in_err-reduce-in-Reduce.ensures.1 in
    rw (p.1, p.2) (λ b ks k R H F N. record { tells = (c.in_err-reduce-in-Reduce.ensures.moved b ks k R.book_in R.left_in H (due-reduce N c.in-Reduce.is)).tells })

pub returns-in-Accept-clause-told : goal.returns-in-Accept-clause-told
returns-in-Accept-clause-told c = λ b ks k R H F N. record { tells = due-accept N H c.in-Accept.is }
