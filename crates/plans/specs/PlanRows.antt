-- A plan in a row of bytes, a byte for each line, and a plan that is being made: its lines in the row, the attributes that they set in a set.
-- Assumes nothing.
use Rattle.std.specs.Prelude.{ℕ, ◌+◌, ◌<◌, ◌≤◌, ◌≡◌, Bool, true, List, length, get_or}
use Rattle.sets.specs.Sets.{bit}
use Rattle.grammar.specs.Limits.{MAX_INHERITED}
use Rattle.grammar.specs.Data.Book.{Book}
use Rattle.plans.specs.Planning.{Planning, lines_of, known_of}
use Rattle.plans.specs.PlanningLaws.{Planned}

-- the lines of a plan, from byte `from` of a row on
pub record PlanRow (lines row : List ℕ) (from count : ℕ) : Type 0 where
  pub count_is : count ≡ length lines
  pub line_is : (i : ℕ) → i < length lines → get_or row (from + i) 0 ≡ get_or lines i 0

-- the bytes outside a part of a row, from byte `from` up to byte `to`, are as they were
pub record Elsewhere (from to : ℕ) (old new : List ℕ) : Type 0 where
  pub long : length new ≡ length old
  pub before : (i : ℕ) → i < from → get_or new i 0 ≡ get_or old i 0
  pub behind : (i : ℕ) → to ≤ i → get_or new i 0 ≡ get_or old i 0

-- a plan that is being made
pub record PlanningIn (b : Book) (member : ℕ → ℕ → Bool) (s : Planning) (row : List ℕ) (from known count : ℕ) : Type 0 where
  pub planned : Planned b member (lines_of s) (known_of s)
  pub room : from + MAX_INHERITED ≤ length row
  pub known_is : (K : ℕ) → K < MAX_INHERITED → bit known K ≡ get_or (known_of s) K true
  pub row_is : PlanRow (lines_of s) row from count
