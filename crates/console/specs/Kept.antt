-- The tokens' numbers in their buffer: as many as it keeps. One token more than a message can have is enough to tell that there are too many.
-- Assumes nothing.
use Prim.Native.Nat.{ℕ, suc, ◌+◌, ◌*◌, ◌≤◌, ◌<◌}
use Rattle.std.specs.Prelude.{◌≡◌, refl, List, [], ◌∷◌, ◌++◌}
use Rattle.std.proofs.Math.Path.{sym, ap}
use Rattle.std.proofs.Common.{◌∙◌, append_assoc, length-set, take-suc-set}
use native.Mathlib.Omega.{arith}
use Rattle.std.proofs.Math.ListN.{length, take, set, length-append, length-take}
use Rattle.std.proofs.Math.Seq.{take_all}
use Rattle.std.proofs.lemmas.List.{take-append-le}
use Rattle.book.specs.Layout.{write_at, put_line}
use Rattle.book.specs.LayoutLaws.{put_in, put-out}

-- tokens and numbers that are kept
abbrev pub KEPT_TOKENS : ℕ
KEPT_TOKENS = 256

abbrev pub KEPT_NUMBERS : ℕ
KEPT_NUMBERS = 512

-- the first of the tokens' numbers
pub record Kept (buffer : List ℕ) (count : ℕ) (numbers : List ℕ) : Type 0 where
  pub numbers_are : take (2 * count) buffer ≡ take KEPT_NUMBERS numbers
  pub count_is : 2 * count ≡ length (take KEPT_NUMBERS numbers)

pub kept-none : (buffer : List ℕ) → Kept buffer 0 []
kept-none buffer = record { numbers_are = refl; count_is = refl }

two-stored : (buffer : List ℕ) (m k v : ℕ) → suc m < length buffer → take (suc (suc m)) (set (set buffer m k) (suc m) v) ≡ take m buffer ++ (k ∷ v ∷ [])
two-stored buffer m k v h =
    rw (take-suc-set (set buffer m k) (suc m) v (rw (length-set buffer m k) h), take-suc-set buffer m k (omega arith))
    (append_assoc (take m buffer) (k ∷ []) (v ∷ []))

module _ {buffer after numbers : List ℕ} {count : ℕ} (kind value : ℕ) (h : Kept buffer count numbers)
    (put : after ≡ put_line KEPT_TOKENS count (kind ∷ value ∷ []) buffer) where
  pub kept_more : KEPT_NUMBERS ≤ length buffer → count < KEPT_TOKENS → Kept after (count + 1) (numbers ++ (kind ∷ value ∷ []))
  unfolding write_at
  kept_more room l =
      let n : length numbers ≡ 2 * count = omega (arith, h.count_is, length-take KEPT_NUMBERS numbers) in
      let all : take KEPT_NUMBERS numbers ≡ numbers = take_all KEPT_NUMBERS numbers (omega arith) in
      let m : count * 2 ≡ 2 * count = omega arith in
      let s : 2 * (count + 1) ≡ suc (suc (2 * count)) = omega arith in
      let length-is : length (numbers ++ (kind ∷ value ∷ [])) ≡ 2 * (count + 1) = omega (arith, length-append numbers (kind ∷ value ∷ [])) in
      let more : take KEPT_NUMBERS (numbers ++ (kind ∷ value ∷ [])) ≡ numbers ++ (kind ∷ value ∷ []) = take_all KEPT_NUMBERS _ (omega arith) in
      let is : after ≡ set (set buffer (2 * count) kind) (suc (2 * count)) value = put ∙ (put_in KEPT_TOKENS count _ buffer l ∙ rw m) in
      record {
        numbers_are = rw (s, is, more, two-stored buffer (2 * count) kind value (omega arith), h.numbers_are, all);
        count_is = sym length-is ∙ ap length (sym more);
      }

  pub kept_full : KEPT_TOKENS ≤ count → Kept after count (numbers ++ (kind ∷ value ∷ []))
  kept_full l =
      let n : KEPT_NUMBERS ≤ length numbers = omega (arith, h.count_is, length-take KEPT_NUMBERS numbers) in
      let same : take KEPT_NUMBERS (numbers ++ (kind ∷ value ∷ [])) ≡ take KEPT_NUMBERS numbers = take-append-le KEPT_NUMBERS numbers _ n in
      record {
        numbers_are = ap (take (2 * count)) (put ∙ put-out KEPT_TOKENS count _ buffer l) ∙ (h.numbers_are ∙ sym same);
        count_is = h.count_is ∙ ap length (sym same);
      }
