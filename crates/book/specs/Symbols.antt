-- A symbol as the code reads it, as the grammar's.
-- Assumes nothing.
use Rattle.grammar.specs.Data.Symbol.{Symbol, terminal, nonterminal}
use Rattle.book.specs.declared.symbol.Symbol.{Symbol as Read}
use Rattle.book.specs.declared.symbol.Symbol.TheVariants.{Terminal, Nonterminal}

abbrev pub symbol_read : Read → Symbol
symbol_read (Terminal K) = terminal K
symbol_read (Nonterminal K) = nonterminal K
