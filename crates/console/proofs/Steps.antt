-- The steps of the definition, a byte and a line, as laws.
-- Assumes nothing.
use Rattle.std.specs.Prelude.{ℕ, ◌+◌, ◌≡◌, true, false, List, [], ◌∷◌, ◌++◌, eqb, length}
use Rattle.std.proofs.Math.Path.{refl, ap}
use Rattle.std.proofs.Math.Option.{Option, none, some}
use Rattle.std.proofs.Common.{length-append}
use Rattle.console.specs.Desk.{Lines, Input, so_far, before_end, after_end, is_end, token_of, joined, one_line, one_byte, all_bytes}

-- one byte more at the end of a line
infixl 70 ◌▷◌
abbrev pub ◌▷◌ : List ℕ → ℕ → List ℕ
◌▷◌ line b = line ++ (b ∷ [])

pub length_more : (line : List ℕ) (b : ℕ) → length (line ▷ b) ≡ length line + 1
length_more line b = length-append line (b ∷ [])

module _ (lines : Lines) (line : List ℕ) (b : ℕ) where
  pub byte-ends : eqb b 10 ≡ true → one_byte (so_far lines line) b ≡ so_far (one_line lines (line ▷ b)) []
  unfolding one_byte
  byte-ends q = rw (q, one_byte)

  pub byte-goes-on : eqb b 10 ≡ false → one_byte (so_far lines line) b ≡ so_far lines (line ▷ b)
  unfolding one_byte
  byte-goes-on q = rw (q, one_byte)

module _ (text line : List ℕ) where
  pub line-ends : is_end line ≡ true → one_line (before_end text) line ≡ after_end (text ++ line) (some [])
  unfolding one_line
  line-ends q = rw (q, one_line)

  pub line-goes-on : is_end line ≡ false → one_line (before_end text) line ≡ before_end (text ++ line)
  unfolding one_line
  line-goes-on q = rw (q, one_line)

  pub line-tokens : (numbers : Option (List ℕ)) → one_line (after_end text numbers) line ≡ after_end text (joined numbers (token_of line))
  unfolding one_line
  line-tokens numbers = refl

pub joined-none : (o : Option (List ℕ)) → joined o none ≡ none
unfolding joined
joined-none none = refl
joined-none (some xs) = refl

pub none-joined : (o : Option (List ℕ)) → joined none o ≡ none
unfolding joined
none-joined o = refl

pub some-joined : (xs ys : List ℕ) → joined (some xs) (some ys) ≡ some (xs ++ ys)
unfolding joined
some-joined xs ys = refl

-- bytes after bytes
pub all_append : (i : Input) (xs ys : List ℕ) → all_bytes i (xs ++ ys) ≡ all_bytes (all_bytes i xs) ys
unfolding all_bytes
all_append i [] ys = refl
all_append i (x ∷ xs) ys = all_append (one_byte i x) xs ys

-- one byte and then the rest
module _ (lines : Lines) (line : List ℕ) (b : ℕ) (bs : List ℕ) where
  pub taken-on : eqb b 10 ≡ false → all_bytes (so_far lines line) (b ∷ bs) ≡ all_bytes (so_far lines (line ▷ b)) bs
  unfolding all_bytes
  taken-on q = ap (λ i. all_bytes i bs) (byte-goes-on lines line b q)

  pub taken-line : eqb b 10 ≡ true → all_bytes (so_far lines line) (b ∷ bs) ≡ all_bytes (so_far (one_line lines (line ▷ b)) []) bs
  unfolding all_bytes
  taken-line q = ap (λ i. all_bytes i bs) (byte-ends lines line b q)
