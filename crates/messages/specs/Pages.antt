-- What is answered of a message, with zeros behind its rows: the page of the rows (`page` of `Evaluator/Rows` of the grammar). Assumes nothing.
use Rattle.std.specs.Prelude.{ℕ, ◌*◌, ◌-◌, ◌≤◌, ◌≡◌, List, ◌++◌, length, replicate, take, drop, Result, Ok, IsOkAnd, IsErrAnd}
use Rattle.std.proofs.Common.{ap, ◌∙◌, arith, length-append}
use Rattle.grammar.specs.Limits.{PAGE_WORDS}
use Rattle.grammar.specs.Evaluator.Rows.{filled, page}
use Rattle.grammar.specs.Evaluator.RowsLaws.{filled-length}
use Rattle.grammar.specs.Evaluator.Machine.{Answer, refused, accepted}
use Rattle.packing.specs.Words.{part_from}
use Rattle.packing.specs.PackingLoops.{cleared-rest}
use Rattle.book.specs.declared.refusal.Refusal.{Refusal}
use Rattle.book.specs.Refusals.{number_of}
use Rattle.machine.specs.RunningLaws.{Answered}
use Rattle.stack.specs.Page.{rows-page}

-- the refusal, or the rows' count and their page
abbrev pub Paged : Answer → Result ℕ Refusal → List ℕ → Type 0
Paged (refused n) r rows = IsErrAnd r (λ e. number_of e ≡ n)
Paged (accepted rs) r rows = IsOkAnd r (λ count. (count ≡ length rs) × (rows ≡ page rs))

-- the rows end within the lent words
pub rows_end : (a : Answer) (count : ℕ) (rows : List ℕ) → Answered a (Ok count) rows → 10 * count ≤ length rows
rows_end (refused n) count rows A = absurd A
rows_end (accepted rs) count rows (count_is, W) =
    omega (arith, count_is, ap length W.rows_are, length-append (filled rs) W.behind, filled-length rs)

-- where the part from there on was lent and cleared
pub page-cleared : (a : Answer) (count : ℕ) (rows : List ℕ) {zeros : List ℕ} → length rows ≡ PAGE_WORDS
    → zeros ≡ replicate (length (part_from (10 * count) rows)) 0 → Answered a (Ok count) rows
    → Paged a (Ok count) (take (10 * count) rows ++ (zeros ++ drop (length rows - 10 * count) (drop (10 * count) rows)))
page-cleared (refused n) count rows long e A = absurd A
page-cleared (accepted rs) count rows long e (count_is, W) =
    (count_is, cleared-rest rows (10 * count) e ∙ rw (count_is, long) (rows-page W))
