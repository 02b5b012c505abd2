-- The arrays of a book and its tables that are as long as a room says, as they are before anything is read.
-- Assumes nothing.
use Rattle.std.specs.Prelude.{ℕ, ◌+◌, ◌*◌, ◌≤◌, ◌≡◌, refl, List, length, replicate, take}
use Rattle.std.proofs.Common.{◌∙◌, arith, length-take}
use Rattle.grammar.specs.Limits.{BOOK_WORDS, MAX_DEFINITIONS, MAX_KERNELS, MAX_GOES, MAX_RULES}
use Rattle.book.specs.declared.Room.{Room}
use Rattle.book.specs.Rooms.{full_room}
use Rattle.compiler.specs.declared.tables.Tables.{Tables}
use Rattle.automaton.specs.GoTable.{Unset, unset-all}
use Rattle.messages.specs.Zeros.{zeros}

-- what a short book has at the most
abbrev pub SHORT_TEXT : ℕ
SHORT_TEXT = 4096

abbrev pub short_room : Room
short_room = record { definitions = 48; kernels = 64; goes = 64; states = 32; rules = 32 }

-- the arrays that are as long as a room says, which is no more than the limits allow
pub record ArraysLent (room : Room) (rules definitions kernels goes nullables begins reaches bounds closures fronts table : List ℕ) : Type 0 where
  pub rules_long : length rules ≡ 10 * room.rules
  pub definitions_long : length definitions ≡ 49 * room.definitions
  pub kernels_long : length kernels ≡ 5 * room.kernels
  pub goes_long : length goes ≡ 3 * room.goes
  pub nullables_long : length nullables ≡ 9 * room.rules
  pub begins_long : length begins ≡ 9 * room.rules
  pub reaches_long : length reaches ≡ 9 * room.rules
  pub bounds_long : length bounds ≡ room.states + 1
  pub closures_none : closures ≡ replicate (32 * room.states) 0
  pub fronts_long : length fronts ≡ room.states
  pub table_unset : Unset room.states table
  pub rules_few : room.rules ≤ MAX_RULES
  pub definitions_few : room.definitions ≤ MAX_DEFINITIONS
  pub kernels_few : room.kernels ≤ MAX_KERNELS
  pub goes_few : room.goes ≤ MAX_GOES

-- the same, those of the tables lent in their struct
abbrev pub ArraysIn : Room → List ℕ → List ℕ → List ℕ → List ℕ → Tables → Type 0
ArraysIn room rules definitions kernels goes t =
    ArraysLent room rules definitions kernels goes t.nullables.now t.begins.now t.reaches.now t.bounds.now t.closures.now t.fronts.now t.table.now

-- arrays of zeros, and a go table of 255s
abbrev pub FreshArrays : Room → Type 0
FreshArrays room = ArraysLent room (replicate (10 * room.rules) 0) (replicate (49 * room.definitions) 0) (replicate (5 * room.kernels) 0)
    (replicate (3 * room.goes) 0) (replicate (9 * room.rules) 0) (replicate (9 * room.rules) 0) (replicate (9 * room.rules) 0)
    (replicate (room.states + 1) 0) (replicate (32 * room.states) 0) (replicate room.states 0) (replicate (64 * room.states) 255)

fresh-arrays : (room : Room) → room.rules ≤ MAX_RULES → room.definitions ≤ MAX_DEFINITIONS → room.kernels ≤ MAX_KERNELS → room.goes ≤ MAX_GOES
    → FreshArrays room
fresh-arrays room rules definitions kernels goes = record {
  rules_long = zeros (10 * room.rules);
  definitions_long = zeros (49 * room.definitions);
  kernels_long = zeros (5 * room.kernels);
  goes_long = zeros (3 * room.goes);
  nullables_long = zeros (9 * room.rules);
  begins_long = zeros (9 * room.rules);
  reaches_long = zeros (9 * room.rules);
  bounds_long = zeros (room.states + 1);
  closures_none = refl;
  fronts_long = zeros room.states;
  table_unset = unset-all room.states;
  rules_few = rules;
  definitions_few = definitions;
  kernels_few = kernels;
  goes_few = goes;
}

pub short-arrays : FreshArrays short_room
short-arrays = fresh-arrays short_room (omega arith) (omega arith) (omega arith) (omega arith)

pub full-arrays : FreshArrays full_room
full-arrays = fresh-arrays full_room (omega arith) (omega arith) (omega arith) (omega arith)

-- the first of the words that are lent serve as the array of definitions
pub words-lent : {room : Room} {rules definitions kernels goes nullables begins reaches bounds closures fronts table : List ℕ} (words : List ℕ)
    → length words ≡ BOOK_WORDS → ArraysLent room rules definitions kernels goes nullables begins reaches bounds closures fronts table
    → ArraysLent room rules (take (49 * room.definitions) words) kernels goes nullables begins reaches bounds closures fronts table
words-lent {room} words e lent = record {
  rules_long = lent.rules_long;
  definitions_long = length-take (49 * room.definitions) words ∙ omega (arith, e, lent.definitions_few);
  kernels_long = lent.kernels_long;
  goes_long = lent.goes_long;
  nullables_long = lent.nullables_long;
  begins_long = lent.begins_long;
  reaches_long = lent.reaches_long;
  bounds_long = lent.bounds_long;
  closures_none = lent.closures_none;
  fronts_long = lent.fronts_long;
  table_unset = lent.table_unset;
  rules_few = lent.rules_few;
  definitions_few = lent.definitions_few;
  kernels_few = lent.kernels_few;
  goes_few = lent.goes_few;
}
