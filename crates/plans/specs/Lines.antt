-- Lines of definitions as bits of two numbers of 64 bits: line d is bit d % 64 of number d / 64. Assumes nothing.
use Rattle.std.specs.Prelude.{ℕ, ◌/◌, ◌%◌, ◌<◌, ◌≤◌, ◌≡◌, Bool, false, List, length, get_or}
use Rattle.sets.specs.Sets.{bit}
use Rattle.grammar.specs.Data.Book.{Book}
use Rattle.grammar.specs.Formulas.FormulaCheck.{dot_of, definitions, line_at}

-- whether a line is among them
abbrev pub line_bit : List ℕ → ℕ → Bool
line_bit found d = bit (get_or found (d / 64) 0) (d % 64)

-- the definitions whose items are in a partial state
pub record LinesIn (b : Book) (member : ℕ → ℕ → Bool) (found : List ℕ) : Type 0 where
  pub long : length found ≡ 2
  pub line_is : (d : ℕ) → d < definitions b → line_bit found d ≡ member (line_at b d).rule (dot_of (line_at b d))
  pub none_behind : (d : ℕ) → definitions b ≤ d → d < 128 → line_bit found d ≡ false
