use native.Mathlib.Omega.{arith}
use Rattle.text.proofs.ClassLaws.{letter-range}
use Rattle.book.specs.Lines.{owner_of}
use Rattle.book.specs.Numbered.{brief-numbered}
use Rattle.book.specs.Short.{keyword-at, end-at}
use Rattle.book.proofs.owners.short_owner.Goals as goal

pub overflow_add-letter : goal.overflow_add-letter
overflow_add-letter c = omega (arith, letter-range _ c.requires)

pub returns-then-source-b : goal.returns-then-source-b
returns-then-source-b c = let short = c.in_ok-number.ensures in
    owner_of _ _ _ _
    (keyword-at _ _ _ (omega (arith, c.if-n-at.false)) c.requires c.if-source-at.false short)
    (brief-numbered _ _ _ short (omega (arith, c.if-n-at.false, short.near)) c.if-source-a.true c.in_ok-read.ensures)
    (end-at _ _ (omega (arith, c.if-n-at.false, short.near, c.in_ok-read.ensures.near)) c.if-source-b.true)
