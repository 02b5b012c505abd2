use borrow.Author.Tests.{eq-eqb, ne_eqb}
use Rattle.text.specs.Numeral.{spelled}
use Rattle.book.proofs.symbols.is_letter.Goals as goal

pub returns-then-word-eq-T : goal.returns-then-word-eq-T
unfolding spelled
returns-then-word-eq-T c = rw (eq-eqb _ _ c.if-word-eq-T.true)

pub returns-else-word-eq-T : goal.returns-else-word-eq-T
unfolding spelled
returns-else-word-eq-T c = rw (ne_eqb _ _ c.if-word-eq-T.false)
