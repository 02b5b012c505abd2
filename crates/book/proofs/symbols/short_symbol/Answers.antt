use native.Mathlib.Omega.{arith}
use Rattle.book.specs.Short.{terminal-by, nonterminal-by}
use Rattle.book.proofs.symbols.short_symbol.Goals as goal

pub returns-in-116 : goal.returns-in-116
returns-in-116 c = terminal-by _ _ (omega (arith, c.requires)) c.in_ok-k.ensures c.in-116.is

pub returns-in-110 : goal.returns-in-110
returns-in-110 c = nonterminal-by _ _ (omega (arith, c.requires)) c.in_ok-k.ensures c.in-110.is
