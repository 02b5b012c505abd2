-- The loops that find the text in the words of a stored book and copy it: the words that are 0, the word in which the text ends, and the words that are
-- copied. Assumes nothing.
use Prim.Native.Nat.{ℕ, zero, suc, ◌+◌, ◌-◌, ◌*◌, ◌/◌, ◌%◌, ◌^◌, ◌<◌, ◌≤◌}
use Rattle.std.specs.Prelude.{◌≡◌, List, ◌∷◌, ◌++◌, length, take, drop}
use Rattle.std.proofs.Math.Path.{refl}
use Rattle.std.proofs.Common.{sym, ap, ◌∙◌, arith, take-add, take-take, get_or-take, get_or-drop}
use Rattle.std.proofs.Math.Pow.{pow_mono}
use Rattle.std.proofs.lemmas.Nat.{pow_pos}
use Rattle.std.specs.Int.Bits.{bit_or}
use Rattle.std.proofs.Math.ListN.{get_or, get_or-eq_default}
use Rattle.sets.specs.Bits.{below_suc}
use Rattle.sets.proofs.Operations.{or-none}
use Rattle.text.proofs.Positional.{by_less}
use Rattle.text.proofs.RestLaws.{drop_more}
use Rattle.packing.specs.Words.{bytes_of, bytes, Placed, Copied, Zeros, Ends, Holds}
use Rattle.packing.specs.WordsLaws.{bytes-length, bytes_drop, none_of, byte_of, holding}
use Rattle.packing.specs.PlacedLaws.{placed-length, placed-front}

-- ---- words that are 0

-- the bits of a word more are gathered
pub zeros-more : {words : List ℕ} {from to : ℕ} (bits : ℕ) → (bits ≡ 0 → Zeros words from to)
    → bit_or bits (get_or words to 0) ≡ 0 → Zeros words from (to + 1)
zeros-more {words} {from} {to} bits Z e =
    let (none, last) = or-none bits (get_or words to 0) e in
    record { each = λ i h k. below_suc (λ j. get_or words j 0 ≡ 0) to i (omega arith) ((Z none).each i h) last }

-- words in front, behind which all words are 0
pub record Front (words front : List ℕ) : Type 0 where
  pub is : front ≡ take (length front) words
  pub behind : Zeros words (length front) (length words)

-- a block less
pub front-less : {words rest front block : List ℕ} (n : ℕ) → Front words rest → length front + n ≡ length rest → front ≡ take (length rest - n) rest
    → block ≡ drop (length rest - n) rest → Zeros block 0 n → Front words front
front-less {words} {rest} {front} {block} n F long f b Z =
    let m : length rest - n ≡ length front = omega arith in
    let shorter : front ≡ take (length front) rest = rw m at f in
    record {
      is = shorter ∙ ap (take (length front)) F.is ∙ take-take (length front) (length rest) words (omega arith);
      behind = record { each = λ i h k. by_less i (length rest) (inside m i h) (λ l. F.behind.each i l k) };
    }
  where
    inside : length rest - n ≡ length front → (i : ℕ) → length front ≤ i → i < length rest → get_or words i 0 ≡ 0
    inside m i h l =
        let at : ℕ = i - length front in
        let j : length front + at ≡ i = omega arith in
        let in_words : get_or rest i 0 ≡ get_or words i 0 =
        ap (λ (ws : List ℕ). get_or ws i 0) F.is ∙ get_or-take (length rest) words i 0 l in
        let in_block : get_or block at 0 ≡ get_or rest i 0 = rw (b, m, get_or-drop (length front) rest at 0, j) in
        sym in_words ∙ sym in_block ∙ Z.each at (omega arith) (omega arith)

-- ---- the word in which the text ends

module _ (w : ℕ) where
  past : (i : ℕ) → 0 < i → (i ≡ 1 → w / 256 % 256 ≡ 0) → (i ≡ 2 → w / 65536 % 256 ≡ 0) → (i ≡ 3 → w / 16777216 % 256 ≡ 0) → get_or (bytes_of w) i 0 ≡ 0
  unfolding bytes_of
  past zero h p q r = absurd (omega arith)
  past (suc zero) h p q r = p refl
  past (suc (suc zero)) h p q r = q refl
  past (suc (suc (suc zero))) h p q r = r refl
  past (suc (suc (suc (suc i)))) h p q r = refl

  pub ends-first : (w ≡ 0 → ⊥) → w < 256 → Ends (bytes_of w) 1
  unfolding bytes_of
  ends-first n h = record {
    within = omega arith;
    behind = λ i k. past i k (λ _. omega arith) (λ _. omega arith) (λ _. omega arith);
    last = λ _ e. n (omega arith);
  }

  pub ends-second : 256 ≤ w → w < 65536 → Ends (bytes_of w) 2
  unfolding bytes_of
  ends-second n h = record {
    within = omega arith;
    behind = λ i k. past i (omega arith) (λ e. absurd (omega arith)) (λ _. omega arith) (λ _. omega arith);
    last = λ _ e. omega arith;
  }

  pub ends-third : 65536 ≤ w → w < 16777216 → Ends (bytes_of w) 3
  unfolding bytes_of
  ends-third n h = record {
    within = omega arith;
    behind = λ i k. past i (omega arith) (λ e. absurd (omega arith)) (λ e. absurd (omega arith)) (λ _. omega arith);
    last = λ _ e. omega arith;
  }

  pub ends-fourth : 16777216 ≤ w → w < 2 ^ 32 → Ends (bytes_of w) 4
  unfolding bytes_of
  ends-fourth n h = record {
    within = omega arith;
    behind = λ i k. get_or-eq_default (bytes_of w) 0 {n = i} k;
    last = λ _ e. omega arith;
  }

  -- the word's highest bit is bit r
  pub ends-top : (r : ℕ) → 2 ^ r ≤ w → w < 2 * 2 ^ r → r < 32 → Ends (bytes_of w) (r / 8 + 1)
  ends-top r l h m =
      by_less r 8 (λ n. rw (quotient 0 (omega arith)) (ends-first (λ z. omega (arith, pow_pos r)) (omega (arith, above 7 (omega arith)))))
      (λ first.
      by_less r 16
      (λ n. rw (quotient 1 (omega arith)) (ends-second (omega (arith, below 8 first)) (omega (arith, above 15 (omega arith)))))
      (λ second.
      by_less r 24
      (λ n. rw (quotient 2 (omega arith)) (ends-third (omega (arith, below 16 second)) (omega (arith, above 23 (omega arith)))))
      (λ third. rw (quotient 3 (omega arith)) (ends-fourth (omega (arith, below 24 third)) (omega (arith, above 31 (omega arith)))))))
    where
      quotient : (q : ℕ) → (8 * q ≤ r) × (r < 8 * q + 8) → r / 8 + 1 ≡ q + 1
      quotient q b = omega arith

      below : (k : ℕ) → k ≤ r → 2 ^ k ≤ w
      below k b = omega (arith, pow_mono {i = k} {j = r} b)

      above : (k : ℕ) → r ≤ k → w < 2 * 2 ^ k
      above k b = omega (arith, pow_mono {i = r} {j = k} b)

-- the bytes of words that are 0
zeros-behind : {words : List ℕ} {from : ℕ} → Zeros words from (length words) → (i : ℕ) → from ≤ i / 4 → get_or (bytes words) i 0 ≡ 0
zeros-behind {words} Z i h =
    let z : get_or words (i / 4) 0 ≡ 0 = by_less (i / 4) (length words) (Z.each (i / 4) h) (λ k. get_or-eq_default words 0 {n = i / 4} k) in
    byte_of words i ∙ rw z (none_of (i % 4))

module _ (words : List ℕ) (low : (i : ℕ) → get_or words i 0 < 2 ^ 32) where
  -- the text ends in word `at`, behind which all are 0
  pub holds_at : (at n : ℕ) → at < length words → Zeros words (at + 1) (length words) → 0 < n → Ends (bytes_of (get_or words at 0)) n
      → Holds words (4 * at + n)
  unfolding bytes_of
  holds_at at n h Z pos E = holding low (record {
    within = omega (arith, bytes-length words, E.within);
    behind = λ i k. by_less (i / 4) (at + 1) (λ l. byte_of words i ∙ inside i k (omega arith)) (zeros-behind Z i);
    last = λ _ e.
        let q : (4 * at + n - 1) / 4 ≡ at = omega (arith, E.within) in
        let r : (4 * at + n - 1) % 4 ≡ n - 1 = omega (arith, E.within) in
        E.last pos (sym (byte_of words (4 * at + n - 1) ∙ rw (q, r)) ∙ e);
  })
    where
      inside : (i : ℕ) → 4 * at + n ≤ i → i / 4 ≡ at → get_or (bytes_of (get_or words (i / 4) 0)) (i % 4) 0 ≡ 0
      inside i k q = rw q (E.behind (i % 4) (omega arith))

  -- all are 0
  pub holds-nothing : Zeros words 0 (length words) → Holds words 0
  holds-nothing Z = holding low (record {
    within = omega arith;
    behind = λ i _. zeros-behind Z i (omega arith);
    last = λ h. absurd (omega arith);
  })

-- ---- words that are copied

first-four : (w : ℕ) (ws : List ℕ) → take 4 (bytes (w ∷ ws)) ≡ bytes_of w
unfolding bytes bytes_of
first-four w ws = refl

copied-turn : {words text new : List ℕ} {i : ℕ} → Copied words i text → i < length words → 4 * i + 4 ≤ length text
    → Placed (bytes_of (get_or words i 0)) (4 * i) text new (4 * i + 4) → Copied words (i + 1) new
copied-turn {words} {i = i} C h room p =
    let n : 4 * (i + 1) ≡ 4 * i + 4 = omega arith in
    record { text_is = rw n (placed-front p room ∙ ap (λ (bs : List ℕ). bs ++ bytes_of (get_or words i 0)) C.text_is ∙ sym split) }
  where
    split : take (4 * i + 4) (bytes words) ≡ take (4 * i) (bytes words) ++ bytes_of (get_or words i 0)
    split =
        take-add (4 * i) 4 (bytes words)
        ∙ ap (λ (bs : List ℕ). take (4 * i) (bytes words) ++ bs)
        (ap (take 4) (bytes_drop i words ∙ ap bytes (drop_more words i h)) ∙ first-four (get_or words i 0) (drop (i + 1) words))

-- four words more
pub copied-four : {words text one two three new : List ℕ} {i at : ℕ} → i + 4 ≤ length words → 4 * i + 16 ≤ length text → at ≡ 4 * i
    → Placed (bytes_of (get_or words i 0)) at text one (at + 4)
    → Placed (bytes_of (get_or words (i + 1) 0)) (at + 4) one two (at + 4 + 4)
    → Placed (bytes_of (get_or words (i + 2) 0)) (at + 8) two three (at + 8 + 4)
    → Placed (bytes_of (get_or words (i + 3) 0)) (at + 12) three new (at + 12 + 4)
    → Copied words i text → Copied words (i + 4) new
copied-four {words} {text} {one} {two} {three} {new} {i} {at} within room e a b c d C =
    let s : at + 4 ≡ 4 * (i + 1) = omega arith in
    let t : at + 8 ≡ 4 * (i + 2) = omega arith in
    let v : at + 12 ≡ 4 * (i + 3) = omega arith in
    let f : length one ≡ length text = placed-length a (omega arith) in
    let g : length two ≡ length text = placed-length b (omega arith) ∙ f in
    let h : length three ≡ length text = placed-length c (omega arith) ∙ g in
    let first : Copied words (i + 1) one = copied-turn C (omega arith) (omega arith) (rw e at a) in
    let second : Copied words (i + 1 + 1) two = copied-turn first (omega arith) (omega arith) (rw s at b) in
    let m : i + 1 + 1 ≡ i + 2 = omega arith in
    let third : Copied words (i + 2 + 1) three = copied-turn (rw m at second) (omega arith) (omega arith) (rw t at c) in
    let n : i + 2 + 1 ≡ i + 3 = omega arith in
    let fourth : Copied words (i + 3 + 1) new = copied-turn (rw n at third) (omega arith) (omega arith) (rw v at d) in
    let k : i + 3 + 1 ≡ i + 4 = omega arith in
    rw k at fourth
