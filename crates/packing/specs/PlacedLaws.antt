-- Laws of a piece of text that is put into its place: a word's four bytes, and what then stands in front. Assumes nothing.
use Rattle.std.specs.Prelude.{ℕ, ◌+◌, ◌-◌, ◌≤◌, ◌≡◌, refl, List, ◌++◌, length, take, drop}
use Rattle.std.proofs.Common.{sym, ap, ◌∙◌, append_assoc, arith, length-append, length-take, length-drop, drop-drop, take_at}
use Rattle.std.specs.Int.{w32, to_le_bytes}
use Rattle.packing.specs.Words.{bytes_of, Placed}

-- the bytes of a word put into the part of the text that is lent for them
pub placed-word : (text put : List ℕ) (at w : ℕ) → put ≡ to_le_bytes w32 w
    → Placed (bytes_of w) at text (take at text ++ (put ++ drop (at + 4 - at) (drop at text))) (at + 4)
unfolding bytes_of
placed-word text put at w e =
    let k : at + 4 - at ≡ 4 = omega arith in
    record { next-is = refl; text_is = rw (k, e, drop-drop 4 at text) }

module _ {bytes old new : List ℕ} {at next : ℕ} (p : Placed bytes at old new next) (h : next ≤ length old) where
  pub placed-length : length new ≡ length old
  placed-length = ap length p.text_is ∙ simp (length-append, length-take, length-drop) (omega (arith, p.next-is))

  pub placed-front : take next new ≡ take at old ++ bytes
  placed-front =
      let long : length (take at old ++ bytes) ≡ next = simp (length-append, length-take) (omega (arith, p.next-is)) in
      ap (take next) (p.text_is ∙ sym (append_assoc (take at old) bytes (drop next old))) ∙ take_at (take at old ++ bytes) (drop next old) next long
