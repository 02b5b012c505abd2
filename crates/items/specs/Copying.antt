-- Words copied one after the other to the same places of another array. Assumes nothing.
use Rattle.std.specs.Prelude.{ℕ, ◌+◌, ◌<◌, ◌≡◌, List, length, get_or, set}
use Rattle.std.proofs.Common.{arith, ◌∙◌, get_or-set_same, get_or-set_other}
use Rattle.std.proofs.Math.Decide.{ℕ_discrete}

-- the first `count` words are the same
abbrev pub Copied : List ℕ → ℕ → List ℕ → Type 0
Copied from count to = (i : ℕ) → i < count → get_or to i 0 ≡ get_or from i 0

pub copied_more : (from to : List ℕ) (count : ℕ) {word : ℕ} → count < length to → word ≡ get_or from count 0 → Copied from count to
    → Copied from (count + 1) (set to count word)
copied_more from to count {word} h e before i l = go (ℕ_discrete i count)
  where
    go : Dec (i ≡ count) → get_or (set to count word) i 0 ≡ get_or from i 0
    go (yes q) = rw q (get_or-set_same to count word 0 h ∙ e)
    go (no n) = get_or-set_other to count i word 0 n ∙ before i (omega arith)
