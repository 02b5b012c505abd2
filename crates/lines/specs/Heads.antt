-- The heads of lines, `(word `, as bytes: a text that has the bytes of a head at a position opens with its word there. Assumes nothing.
use Rattle.std.specs.Prelude.{ℕ, zero, suc, ◌+◌, ◌*◌, ◌-◌, ◌<◌, ◌≤◌, ◌≡◌, refl, List, [], ◌∷◌, ◌++◌, length, get_or, drop}
use Rattle.std.proofs.Common.{arith, sym, ◌∙◌}
use Rattle.text.specs.Rest.{rest, left}
use Rattle.text.proofs.RestLaws.{rest_in, drop_more}
use Rattle.text.specs.Numeral.{word_of}
use Rattle.text.proofs.Positional.{by_less}
use Rattle.grammar.specs.Format.Reader.{opening}
use Rattle.grammar.specs.Format.ReaderLaws.{reading}

-- four bytes as one number, lowest first
pub record Four (number a b c d : ℕ) : Type 0 where
  pub number_is : number ≡ a + 256 * (b + 256 * (c + 256 * d))
  pub first_low : a < 256
  pub second_low : b < 256
  pub third_low : c < 256

-- a number of bytes of a text, from a place on, are those of another
pub record Same (text : List ℕ) (at : ℕ) (bytes : List ℕ) (from m : ℕ) : Type 0 where
  pub each : (i : ℕ) → i < m → get_or text (at + i) 0 ≡ get_or bytes (from + i) 0

-- the bytes of a line's head
pub record Spells (word : ℕ) (bytes : List ℕ) : Type 0 where
  pub few : 4 ≤ length bytes
  pub short : length bytes ≤ 8
  pub opens : (r : List ℕ) → opening word (left (bytes ++ r)) ≡ left r

pub book-head : Spells (word_of "book") (40 ∷ 98 ∷ 111 ∷ 111 ∷ 107 ∷ 32 ∷ [])
unfolding reading
book-head = record { few = omega arith; short = omega arith; opens = λ r. refl }

pub inherited-head : Spells (word_of "inh") (40 ∷ 105 ∷ 110 ∷ 104 ∷ 32 ∷ [])
unfolding reading
inherited-head = record { few = omega arith; short = omega arith; opens = λ r. refl }

pub synthesized-head : Spells (word_of "syn") (40 ∷ 115 ∷ 121 ∷ 110 ∷ 32 ∷ [])
unfolding reading
synthesized-head = record { few = omega arith; short = omega arith; opens = λ r. refl }

pub rule-head : Spells (word_of "rule") (40 ∷ 114 ∷ 117 ∷ 108 ∷ 101 ∷ 32 ∷ [])
unfolding reading
rule-head = record { few = omega arith; short = omega arith; opens = λ r. refl }

pub inherited-definition-head : Spells (word_of "inhdef") (40 ∷ 105 ∷ 110 ∷ 104 ∷ 100 ∷ 101 ∷ 102 ∷ 32 ∷ [])
unfolding reading
inherited-definition-head = record { few = omega arith; short = omega arith; opens = λ r. refl }

pub synthesized-definition-head : Spells (word_of "syndef") (40 ∷ 115 ∷ 121 ∷ 110 ∷ 100 ∷ 101 ∷ 102 ∷ 32 ∷ [])
unfolding reading
synthesized-definition-head = record { few = omega arith; short = omega arith; opens = λ r. refl }

pub kernel-head : Spells (word_of "kernel") (40 ∷ 107 ∷ 101 ∷ 114 ∷ 110 ∷ 101 ∷ 108 ∷ 32 ∷ [])
unfolding reading
kernel-head = record { few = omega arith; short = omega arith; opens = λ r. refl }

pub token-head : Spells (word_of "tok") (40 ∷ 116 ∷ 111 ∷ 107 ∷ 32 ∷ [])
unfolding reading
token-head = record { few = omega arith; short = omega arith; opens = λ r. refl }

pub go-head : Spells (word_of "go") (40 ∷ 103 ∷ 111 ∷ 32 ∷ [])
unfolding reading
go-head = record { few = omega arith; short = omega arith; opens = λ r. refl }

-- equal numbers have equal bytes
pub four_same : (text bytes : List ℕ) (at from : ℕ) {x y : ℕ} → Four x (get_or text at 0) (get_or text (at + 1) 0) (get_or text (at + 2) 0) (get_or text (at + 3) 0)
    → Four y (get_or bytes from 0) (get_or bytes (from + 1) 0) (get_or bytes (from + 2) 0) (get_or bytes (from + 3) 0) → x ≡ y → Same text at bytes from 4
four_same text bytes at from p q e = record { each = of }
  where
    of : (i : ℕ) → i < 4 → get_or text (at + i) 0 ≡ get_or bytes (from + i) 0
    of zero l =
        let a : at + 0 ≡ at = omega arith in
        let b : from + 0 ≡ from = omega arith in
        rw (a, b) (omega (arith, p, q))
    of (suc zero) l = omega (arith, p, q)
    of (suc (suc zero)) l = omega (arith, p, q)
    of (suc (suc (suc zero))) l = omega (arith, p, q)
    of (suc (suc (suc (suc i)))) l = absurd (omega arith)

-- a text from a place on where it has some bytes
front : (bytes text : List ℕ) (at : ℕ) → at + length bytes ≤ length text → ((i : ℕ) → i < length bytes → get_or text (at + i) 0 ≡ get_or bytes i 0)
    → drop at text ≡ bytes ++ drop (at + length bytes) text
front [] text at h same = let e : at + 0 ≡ at = omega arith in rw e
front (b ∷ bytes) text at h same =
    let e : at + 0 ≡ at = omega arith in
    let here : get_or text at 0 ≡ b = rw e at (same 0 (omega arith)) in
    let f : at + suc (length bytes) ≡ at + 1 + length bytes = omega arith in
    drop_more text at (omega arith) ∙ rw (
      here,
      f,
      front bytes text (at + 1) (omega arith) (λ i l.
          let g : at + 1 + i ≡ at + suc i = omega arith in
          rw g (same (suc i) (omega arith))),
    )

-- the first four bytes and the last four are all of them
pub head_read : {word : ℕ} {bytes : List ℕ} (h : Spells word bytes) (text : List ℕ) (at : ℕ) → at + length bytes ≤ length text → Same text at bytes 0 4
    → Same text (at + length bytes - 4) bytes (length bytes - 4) 4 → rest text (at + length bytes) ≡ opening word (rest text at)
head_read {word} {bytes} h text at l first last =
    rest_in text (at + length bytes) l ∙ sym (rw (rest_in text at (omega arith), front bytes text at l each)
    (h.opens (drop (at + length bytes) text)))
  where
    each : (i : ℕ) → i < length bytes → get_or text (at + i) 0 ≡ get_or bytes i 0
    each i below =
        by_less i 4
        (λ early.
        let here : 0 + i ≡ i = omega arith in
        rw here at (first.each i early))
        (λ late.
        let there : at + length bytes - 4 + (i + 4 - length bytes) ≡ at + i = omega (arith, h.few, h.short) in
        let here : length bytes - 4 + (i + 4 - length bytes) ≡ i = omega (arith, h.few, h.short) in
        rw (there, here) at (last.each (i + 4 - length bytes) (omega (arith, h.few))))
