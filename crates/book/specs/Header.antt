-- The first line of a book as a reader of its own, and a book as its first line and its sections.
-- Assumes nothing.
use Rattle.std.specs.Prelude.{ℕ, ◌≡◌, refl}
use Rattle.text.specs.Class.{space}
use Rattle.text.specs.Rest.{Rest, mark}
use Rattle.text.specs.Numeral.{word_of}
use Rattle.grammar.specs.Format.Reader.{result, remaining, Reader, pure, ◌>>=◌, ◌>>◌, decimal_number, opening, closing}
use Rattle.grammar.specs.Format.Parse.{owner_lines, rule_lines, inherited_definition_lines, synthesized_definition_lines, kernel_lines, go_lines, end_line, book_text}
use Rattle.book.specs.declared.header.HeaderRead.{HeaderRead}

-- `(book T N Q)`
pub record Numbers : Type 0 where
  pub terminals : ℕ
  pub nonterminals : ℕ
  pub states : ℕ

unfoldable pub header : Reader Numbers
header = do
  opening (word_of "book")
  T ← decimal_number
  mark space
  N ← decimal_number
  mark space
  Q ← decimal_number
  closing
  pure (record { terminals = T; nonterminals = N; states = Q })

-- as the code holds it
abbrev pub numbers_of : HeaderRead → Numbers
numbers_of r = record { terminals = r.terminals; nonterminals = r.nonterminals; states = r.states }

pub book_is : (o : Rest) → book_text o ≡ (do
  head ← header
  inherited_owners ← owner_lines (word_of "inh") (word_of "i")
  synthesized_owners ← owner_lines (word_of "syn") (word_of "s")
  rules ← rule_lines
  inherited_definitions ← inherited_definition_lines
  synthesized_definitions ← synthesized_definition_lines
  kernels ← kernel_lines
  goes ← go_lines
  end_line
  pure (record {
    terminals = head.terminals;
    nonterminals = head.nonterminals;
    states = head.states;
    inherited_owners = inherited_owners;
    synthesized_owners = synthesized_owners;
    rules = rules;
    inherited_definitions = inherited_definitions;
    synthesized_definitions = synthesized_definitions;
    kernels = kernels;
    goes = goes;
  })) o
unfolding book_text header result remaining
book_is o = refl

-- opens every definition of this module
unfoldable pub opens : Unit {0}
unfolding header
opens = tt
