-- Words that are all 0, as those of a closure without items, told by their gathered bits. Assumes nothing.
use Rattle.std.specs.Prelude.{ℕ, ◌+◌, ◌<◌, ◌≤◌, ◌≡◌, List, get_or}
use Rattle.std.proofs.Common.{arith}
use Rattle.std.specs.Int.Bits.{bit_or}
use Rattle.sets.specs.Bits.{below_suc}
use Rattle.sets.proofs.Operations.{or-none}

-- a number of words are 0, from a place on
abbrev pub Nothing : List ℕ → ℕ → ℕ → Type 0
Nothing words first n = (i : ℕ) → i < n → get_or words (first + i) 0 ≡ 0

pub nothing-none : (words : List ℕ) (first : ℕ) → Nothing words first 0
nothing-none words first i l = absurd (omega arith)

-- the bits of one more word are gathered
pub nothing-more : (words : List ℕ) (first n bits : ℕ) → (bits ≡ 0 → Nothing words first n) → bit_or bits (get_or words (first + n) 0) ≡ 0
    → Nothing words first (n + 1)
nothing-more words first n bits before e i l =
    let (none, last) = or-none bits (get_or words (first + n) 0) e in
    below_suc (λ j. get_or words (first + j) 0 ≡ 0) n i (omega arith) (before none i) last

pub nothing-all : (words : List ℕ) (first : ℕ) {n m : ℕ} → Nothing words first n → m ≤ n → Nothing words first m
nothing-all words first all l i h = all i (omega arith)
