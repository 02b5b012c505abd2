-- What is answered of a whole text (01, "Spelling of a book"): the numbers of its book, if it is a book's, and the book's lines in arrays.
-- Assumes nothing.
use Rattle.std.specs.Prelude.{ℕ, ◌+◌, ◌*◌, ◌<◌, ◌≤◌, ◌≡◌, List, length, Option, None, Some}
use Rattle.std.proofs.Math.Option.{none, some}
use Rattle.grammar.specs.Limits.{MAX_INHERITED, MAX_SYNTHESIZED, MAX_RULES, MAX_DEFINITIONS, MAX_KERNELS, MAX_GOES, MAX_STATES}
use Rattle.grammar.specs.Data.Book.{Book as Lines}
use Rattle.grammar.specs.Format.Parse.{parse_book}
use Rattle.book.specs.declared.Book.{Book}
use Rattle.book.specs.declared.Room.{Room}
use Rattle.book.specs.Layout.{store_lines, owner_words, rule_words, kernel_words, go_words}
use Rattle.book.specs.Held.{inherited_words, synthesized_words}
use Rattle.book.specs.Counts.{counts_of}

-- an array for each kind of line; both kinds of definitions share one
pub record Arrays : Type 0 where
  pub inherited : List ℕ
  pub synthesized : List ℕ
  pub rules : List ℕ
  pub definitions : List ℕ
  pub kernels : List ℕ
  pub goes : List ℕ

abbrev pub arrays : (inherited synthesized rules definitions kernels goes : List ℕ) → Arrays
arrays inherited synthesized rules definitions kernels goes =
    record { inherited = inherited; synthesized = synthesized; rules = rules; definitions = definitions; kernels = kernels; goes = goes }

-- each has places for as many lines as a taken book can have, or as the room says
pub record Roomy (room : Room) (a : Arrays) : Type 0 where
  pub inherited_long : length a.inherited ≡ MAX_INHERITED
  pub synthesized_long : length a.synthesized ≡ MAX_SYNTHESIZED
  pub rules_long : length a.rules ≡ 10 * room.rules
  pub definitions_long : length a.definitions ≡ 49 * room.definitions
  pub kernels_long : length a.kernels ≡ 5 * room.kernels
  pub goes_long : length a.goes ≡ 3 * room.goes
  pub rules_few : room.rules ≤ MAX_RULES
  pub definitions_few : room.definitions ≤ MAX_DEFINITIONS
  pub kernels_few : room.kernels ≤ MAX_KERNELS
  pub goes_few : room.goes ≤ MAX_GOES

-- a book's lines stored in arrays; the synthesized attributes' definitions stand after the inherited ones'
unfoldable pub stored_in : Room → Arrays → Lines → Arrays
stored_in room a b = record {
  inherited = store_lines owner_words MAX_INHERITED 0 b.inherited_owners a.inherited;
  synthesized = store_lines owner_words MAX_SYNTHESIZED 0 b.synthesized_owners a.synthesized;
  rules = store_lines rule_words room.rules 0 b.rules a.rules;
  definitions = store_lines synthesized_words room.definitions (length b.inherited_definitions) b.synthesized_definitions
      (store_lines inherited_words room.definitions 0 b.inherited_definitions a.definitions);
  kernels = store_lines kernel_words room.kernels 0 b.kernels a.kernels;
  goes = store_lines go_words room.goes 0 b.goes a.goes;
}

-- the answer, the numbers of the book that the text spells if it spells one (condition 2), and the arrays before and after
pub record Spelling (room : Room) (text : List ℕ) (before : Arrays) (read : Option Book) (stored : Arrays) : Type 0 where
  pub none_is : parse_book text ≡ none → read ≡ None
  pub some_is : (b : Lines) → parse_book text ≡ some b → read ≡ Some (counts_of b)
  pub lines_are : (b : Lines) → parse_book text ≡ some b → stored ≡ stored_in room before b

-- where there is less room than a limit allows, nothing was left out
pub record Complete (room : Room) (numbers : Book) : Type 0 where
  pub definitions-fit : room.definitions < MAX_DEFINITIONS → numbers.inherited_definitions + numbers.synthesized_definitions ≤ room.definitions
  pub kernels_fit : room.kernels < MAX_KERNELS → numbers.kernels ≤ room.kernels
  pub goes_fit : room.goes < MAX_GOES → numbers.goes ≤ room.goes
  pub states-fit : room.states < MAX_STATES → numbers.states ≤ room.states
  pub rules-fit : room.rules < MAX_RULES → numbers.rules ≤ room.rules

-- opens every definition of this module
unfoldable pub opens : Unit {0}
unfolding stored_in
opens = tt
