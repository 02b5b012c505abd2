-- A text in front and a line after it that stand at the beginning of a buffer: up to m and from m to n.
-- Assumes nothing.
use Rattle.std.specs.Prelude.{ℕ, ◌+◌, ◌≤◌, ◌≡◌, List, ◌++◌, length, take}

pub record Stands (buffer front line : List ℕ) (m n : ℕ) : Type 0 where
  pub text_is : take n buffer ≡ front ++ line
  pub front_is : m ≡ length front
  pub line_is : n ≡ length front + length line
  pub within : n ≤ length buffer
