use mathlib.Core.Path.{refl}
use native.Mathlib.Omega.{arith}
use Rattle.book.specs.Layout.{symbol_code}
use Rattle.book.specs.LayoutLaws.{code-low, code-high}
use Rattle.book.proofs.symbol.Symbol.code.Goals as goal

pub returns-in-Terminal : goal.returns-in-Terminal
unfolding symbol_code
returns-in-Terminal c = rw c.in-Terminal.is (code-low 0 _ _ c.if-number-lt32.true (omega arith))

pub returns-in-Nonterminal : goal.returns-in-Nonterminal
unfolding symbol_code
returns-in-Nonterminal c = rw c.in-Nonterminal.is (code-low 32 _ _ c.if-number-lt32-2.true refl)

pub returns-in_default : goal.returns-in_default
unfolding symbol_code
returns-in_default c = rw c.in-Terminal.is (code-high _ _ c.if-number-lt32.false)

pub returns-in_default-2 : goal.returns-in_default-2
unfolding symbol_code
returns-in_default-2 c = rw c.in-Nonterminal.is (code-high _ _ c.if-number-lt32-2.false)
