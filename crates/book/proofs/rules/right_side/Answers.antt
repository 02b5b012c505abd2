use mathlib.Core.Path.{refl}
use Rattle.grammar.specs.Format.Parse.{symbols}
use Rattle.book.specs.Sections.{puts_of, filling-start, filling-turn, filling-less, filling-done}
use Rattle.book.specs.Lines.{symbol_words, symbols-shrink}
use Rattle.book.proofs.rules.right_side.Goals as goal

pub loop-at-init : goal.loop-at-init
unfolding symbols
loop-at-init c = filling-start _ _ _ _ _ symbols-shrink _ _ _ _

pub returns-then-n-a : goal.returns-then-n-a
returns-then-n-a c = filling-done _ _ _ _ _ symbols-shrink _ c.loop-at.invariant c.mark-a.ensures c.if-n-a.true

pub loop-at-smaller : goal.loop-at-smaller
loop-at-smaller c = filling-less _ _ _ _ _ symbols-shrink _ c.loop-at.invariant c.mark-a.ensures c.if-n-a.false
    c.symbol-x.ensures.remaining_is

pub loop-at-preserved : goal.loop-at-preserved
unfolding symbol_words
loop-at-preserved c = filling-turn _ _ _ _ _ symbols-shrink _ c.loop-at.invariant c.mark-a.ensures c.if-n-a.false
    (puts_of c.symbol-x.ensures (rw c.code.ensures) c.put_line.ensures) refl
