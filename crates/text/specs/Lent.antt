-- What a text to be read rests on. Assumes nothing.
use Rattle.std.specs.Prelude.{ℕ, ◌≤◌, ◌≡◌, List, length}
use Rattle.text.specs.Table.{table}

-- the table of classes, and a text that is not too long
pub record Lent (classes text : List ℕ) : Type 0 where
  pub table_is : classes ≡ table
  pub short : length text ≤ 65536
