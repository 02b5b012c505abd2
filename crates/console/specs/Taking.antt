-- Bytes of the input taken one after another: what is held of some input is held, after k of them, of that input with these bytes after it.
-- Assumes nothing.
use Rattle.std.specs.Prelude.{ℕ, ◌≤◌, ◌≡◌, List, length, take}
use Rattle.console.specs.declared.input.Progress.{Progress}
use Rattle.console.specs.Desk.{Input, all_bytes}
use Rattle.console.specs.Holds.{Holds}

-- from p₀, text₀ and buffer₀, after k of the bytes
pub record Taking (bytes text₀ buffer₀ : List ℕ) (p₀ : Progress) (k : ℕ) (text buffer : List ℕ) (p : Progress) : Type 0 where
  pub within : k ≤ length bytes
  pub text_long : length text ≡ length text₀
  pub buffer_long : length buffer ≡ length buffer₀
  pub holds : (i : Input) → Holds p₀ text₀ buffer₀ i → Holds p text buffer (all_bytes i (take k bytes))
