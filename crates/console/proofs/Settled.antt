-- Refusals that no further input changes: a book text that is too long, and a token line that is misspelt or too long to be spelled right.
-- Assumes nothing.
use Rattle.std.specs.Prelude.{ℕ, ◌≤◌, ◌<◌, ◌≡◌, refl, Bool, true, false, ◌⊎◌, eqb, length}
use Rattle.std.proofs.Math.Option.{Option, none, some}
use Rattle.std.proofs.Math.Logic.{inl, inr}
use mathlib.Core.List.{List, [], ◌∷◌, ◌++◌}
use Rattle.std.proofs.Common.{arith, length-append, le-leb}
use Rattle.std.proofs.lemmas.Bool.{lt-leb}
use Rattle.grammar.specs.Limits.{MAX_TEXT}
use Rattle.console.specs.Desk.{Input, so_far, before_end, after_end, is_end, token_of, one_byte, all_bytes, refused, answer, answer_to}
use Rattle.console.specs.Lines.{TOKEN_BYTES, long-token}
use Rattle.console.proofs.Steps.{◌▷◌, length_more, byte-ends, byte-goes-on, line-ends, line-goes-on, line-tokens, joined-none, none-joined}
use Rattle.console.specs.Settled.{Settled}

pub settled-more : {n : ℕ} {i : Input} (b : ℕ) → Settled n i → Settled n (one_byte i b)
unfolding all_bytes
settled-more b h = record { always = λ bs. h.always (b ∷ bs) }

pub settled-end : {n : ℕ} {i : Input} → Settled n i → answer_to i ≡ refused n
unfolding all_bytes
settled-end h = h.always []

-- what is kept by every byte and tells the answer at the end settles it
module _ {n : ℕ} (P : Input → Type 0) (keep : (i : Input) (b : ℕ) → P i → P (one_byte i b)) (end : (i : Input) → P i → answer_to i ≡ refused n) where
  to_the_end : (i : Input) → P i → (bs : List ℕ) → answer_to (all_bytes i bs) ≡ refused n
  unfolding all_bytes
  to_the_end i h [] = end i h
  to_the_end i h (b ∷ bs) = to_the_end (one_byte i b) (keep i b h) bs

  settles : (i : Input) → P i → Settled n i
  settles i h = record { always = to_the_end i h }

-- 1

Long : Input → Type 0
Long (so_far (before_end text) line) = MAX_TEXT < length (text ++ line)
Long (so_far (after_end text numbers) line) = MAX_TEXT < length text

-- a byte after a book text that is as long as it may be
long-next : (text line : List ℕ) (b : ℕ) → MAX_TEXT ≤ length (text ++ line) → Long (one_byte (so_far (before_end text) line) b)
unfolding Long
long-next text line b h =
    go (eqb b 10) refl (is_end (line ▷ b)) refl (omega (arith, length-append text line, length-append text (line ▷ b), length_more line b))
  where
    go : (t : Bool) → eqb b 10 ≡ t → (u : Bool) → is_end (line ▷ b) ≡ u → MAX_TEXT < length (text ++ (line ▷ b))
        → Long (one_byte (so_far (before_end text) line) b)
    go false q u p l = rw (byte-goes-on _ line b q) l
    go true q true p l = rw (byte-ends _ line b q, line-ends text (line ▷ b) p) l
    go true q false p l = rw (byte-ends _ line b q, line-goes-on text (line ▷ b) p) (omega (arith, length-append (text ++ (line ▷ b)) []))

long-keeps : (i : Input) (b : ℕ) → Long i → Long (one_byte i b)
unfolding Long
long-keeps (so_far (before_end text) line) b h = long-next text line b (omega arith)
long-keeps (so_far (after_end text numbers) line) b h = go (eqb b 10) refl
  where
    go : (t : Bool) → eqb b 10 ≡ t → Long (one_byte (so_far (after_end text numbers) line) b)
    go true q = rw (byte-ends _ line b q, line-tokens text (line ▷ b) numbers) h
    go false q = rw (byte-goes-on _ line b q) h

too_long : (text : List ℕ) (numbers : Option (List ℕ)) → MAX_TEXT < length text → answer text numbers ≡ refused 1
unfolding answer
too_long text numbers h = rw (lt-leb (length text) MAX_TEXT h, answer)

long-ends : (i : Input) → Long i → answer_to i ≡ refused 1
unfolding Long answer_to
long-ends (so_far (before_end text) line) h = too_long (text ++ line) (some []) h
long-ends (so_far (after_end text numbers) []) h = too_long text numbers h
long-ends (so_far (after_end text numbers) (b ∷ line)) h = too_long text none h

pub long-settled : (text line : List ℕ) (b : ℕ) → MAX_TEXT ≤ length (text ++ line) → Settled 1 (one_byte (so_far (before_end text) line) b)
long-settled text line b h = settles Long long-keeps long-ends (one_byte (so_far (before_end text) line) b) (long-next text line b h)

-- 2

Misspelt : Input → Type 0
Misspelt (so_far (before_end text) line) = ⊥
Misspelt (so_far (after_end text numbers) line) = (length text ≤ MAX_TEXT) × ((numbers ≡ none) ⊎ (TOKEN_BYTES ≤ length line))

misspelt-keeps : (i : Input) (b : ℕ) → Misspelt i → Misspelt (one_byte i b)
unfolding Misspelt
misspelt-keeps (so_far (before_end text) line) b h = absurd h
misspelt-keeps (so_far (after_end text numbers) line) b (s, m) = go (eqb b 10) refl m
  where
    go : (t : Bool) → eqb b 10 ≡ t → (numbers ≡ none) ⊎ (TOKEN_BYTES ≤ length line) → Misspelt (one_byte (so_far (after_end text numbers) line) b)
    go true q (inl e) = rw (byte-ends _ line b q, line-tokens text (line ▷ b) numbers) (s, inl (rw e (none-joined (token_of (line ▷ b)))))
    go true q (inr l) =
        rw (byte-ends _ line b q, line-tokens text (line ▷ b) numbers)
        (s, inl (rw (long-token (line ▷ b) (omega (arith, length_more line b))) (joined-none numbers)))
    go false q (inl e) = rw (byte-goes-on _ line b q) (s, inl e)
    go false q (inr l) = rw (byte-goes-on _ line b q) (s, inr (omega (arith, length_more line b)))

none-refused : (text : List ℕ) → length text ≤ MAX_TEXT → answer text none ≡ refused 2
unfolding answer
none-refused text h = rw (le-leb (length text) MAX_TEXT h, answer)

misspelt-ends : (i : Input) → Misspelt i → answer_to i ≡ refused 2
unfolding Misspelt answer_to
misspelt-ends (so_far (before_end text) line) h = absurd h
misspelt-ends (so_far (after_end text numbers) []) (s, inl e) = rw e (none-refused text s)
misspelt-ends (so_far (after_end text numbers) []) (s, inr l) = absurd (omega arith)
misspelt-ends (so_far (after_end text numbers) (b ∷ line)) (s, m) = none-refused text s

module _ (text : List ℕ) (short : length text ≤ MAX_TEXT) where
  pub misspelt-settled : (line : List ℕ) → Settled 2 (so_far (after_end text none) line)
  unfolding Misspelt
  misspelt-settled line = settles Misspelt misspelt-keeps misspelt-ends (so_far (after_end text none) line) (short, inl refl)

  -- a line that is not ended after as many bytes as a token line can have
  pub overlong-settled : (numbers : Option (List ℕ)) (line : List ℕ) → TOKEN_BYTES ≤ length line → Settled 2 (so_far (after_end text numbers) line)
  unfolding Misspelt
  overlong-settled numbers line h = settles Misspelt misspelt-keeps misspelt-ends (so_far (after_end text numbers) line) (short, inr h)

  -- the input may not end amid a token line
  pub unended : (numbers : Option (List ℕ)) (line : List ℕ) → 0 < length line → answer_to (so_far (after_end text numbers) line) ≡ refused 2
  unfolding answer_to
  unended numbers [] h = absurd (omega arith)
  unended numbers (b ∷ line) h = none-refused text short
