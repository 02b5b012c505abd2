use borrow.Author.Tests.{eq-eqb, ne_eqb}
use Rattle.text.specs.Numeral.{spelled}
use Rattle.grammar.specs.Format.Parse.{symbol_of}
use Rattle.book.specs.Short.{symbol-parts}
use Rattle.book.proofs.symbols.any_symbol.Goals as goal

pub returns-then-letter-eq-T : goal.returns-then-letter-eq-T
unfolding symbol_of spelled
returns-then-letter-eq-T c = symbol-parts c.word-letter.ensures (rw (← c.is_letter.ensures) c.require-a.ensures) c.number-k.ensures
    (rw (eq-eqb _ _ c.if-letter-eq-T.true))

pub returns-else-letter-eq-T : goal.returns-else-letter-eq-T
unfolding symbol_of spelled
returns-else-letter-eq-T c = symbol-parts c.word-letter.ensures (rw (← c.is_letter.ensures) c.require-a.ensures) c.number-k.ensures
    (rw (ne_eqb _ _ c.if-letter-eq-T.false))
