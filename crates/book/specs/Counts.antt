-- The numbers of a book, as the code holds them by value: what its first line says, and how many lines of each kind it has.
-- Assumes nothing.
use Rattle.std.specs.Prelude.{length}
use Rattle.grammar.specs.Data.Book.{Book as Lines}
use Rattle.book.specs.declared.Book.{Book}

unfoldable pub counts_of : Lines → Book
counts_of b = record {
  terminals = b.terminals;
  nonterminals = b.nonterminals;
  states = b.states;
  inherited = length b.inherited_owners;
  synthesized = length b.synthesized_owners;
  rules = length b.rules;
  inherited_definitions = length b.inherited_definitions;
  synthesized_definitions = length b.synthesized_definitions;
  kernels = length b.kernels;
  goes = length b.goes;
}

-- opens every definition of this module
unfoldable pub opens : Unit {0}
unfolding counts_of
opens = tt
