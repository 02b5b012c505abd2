-- What the code that packs and unpacks says of words and texts: the bytes of words, a piece of text that was put into its place, words that are 0, and
-- the text in words, which ends at the last byte that is not 0. Assumes nothing.
use Rattle.std.specs.Prelude.{ℕ, ◌-◌, ◌+◌, ◌*◌, ◌/◌, ◌%◌, ◌<◌, ◌≤◌, ◌≡◌, List, [], ◌∷◌, ◌++◌, length, get_or, take, drop}
use Rattle.grammar.specs.Format.Packing.{pack}

-- a word's four bytes, lowest first
unfoldable pub bytes_of : ℕ → List ℕ
bytes_of w = w % 256 ∷ w / 256 % 256 ∷ w / 65536 % 256 ∷ w / 16777216 % 256 ∷ []

-- the bytes of words
unfoldable pub bytes : List ℕ → List ℕ
bytes [] = []
bytes (w ∷ ws) = bytes_of w ++ bytes ws

-- the part of a slice from `at` on, as it is lent
abbrev pub part_from : ℕ → List ℕ → List ℕ
part_from at words = take (length words - at) (drop at words)

-- `bytes` put into `old` at `at` gives `new`; behind them, from `next` on, nothing is changed
pub record Placed (bytes : List ℕ) (at : ℕ) (old new : List ℕ) (next : ℕ) : Type 0 where
  pub next-is : next ≡ at + length bytes
  pub text_is : new ≡ take at old ++ (bytes ++ drop next old)

-- the bytes of the first i words stand at the beginning of a text
pub record Copied (words : List ℕ) (i : ℕ) (text : List ℕ) : Type 0 where
  pub text_is : take (4 * i) text ≡ take (4 * i) (bytes words)

-- the words of a part are 0
pub record Zeros (words : List ℕ) (from to : ℕ) : Type 0 where
  pub each : (i : ℕ) → from ≤ i → i < to → get_or words i 0 ≡ 0

-- the last byte that is not 0 is the n-th; n is 0 where there is none
pub record Ends (bs : List ℕ) (n : ℕ) : Type 0 where
  pub within : n ≤ length bs
  pub behind : (i : ℕ) → n ≤ i → get_or bs i 0 ≡ 0
  pub last : 0 < n → get_or bs (n - 1) 0 ≡ 0 → ⊥

-- the text in words has n bytes, and the words are its filling
pub record Holds (words : List ℕ) (n : ℕ) : Type 0 where
  pub ends : Ends (bytes words) n
  pub filling : words ≡ pack (length words) (take n (bytes words))

-- opens every definition of this module
unfoldable pub opens : Unit {0}
unfolding bytes_of bytes
opens = tt
