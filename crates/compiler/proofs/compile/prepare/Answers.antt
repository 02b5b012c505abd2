use Rattle.book.specs.Refusals.{answer-none, answer-some, handed_on}
use Rattle.compiler.specs.Prepared.{asked-tables, prepared-refused, prepared-tables}
use Rattle.compiler.proofs.compile.prepare.Goals as goal

pub returns-in_err-conditions-clause-prepared : goal.returns-in_err-conditions-clause-prepared
returns-in_err-conditions-clause-prepared c = λ b h. rw (handed_on _ c.from_residual.result c.in_err-conditions.was c.from_residual.ensures.1) (prepared-refused h (c.conditions.ensures b h) (answer-some c.in_err-conditions.was))

pub fill_tables-requires-clause-book_held : goal.fill_tables-requires-clause-book_held
fill_tables-requires-clause-book_held c = let (b, h) = c.requires.some in (b, asked-tables h (c.conditions.ensures b h) (answer-none c.in_ok-conditions.was))

pub returns-clause-prepared : goal.returns-clause-prepared
returns-clause-prepared c = λ b h.
    let told = c.conditions.ensures b h in
    let none = answer-none c.in_ok-conditions.was in
    prepared-tables h told none (c.fill_tables.ensures.tabled b (asked-tables h told none))
