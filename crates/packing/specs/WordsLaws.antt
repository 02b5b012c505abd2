-- Laws of packing and unpacking, word by word: the words of a text by parts, the bytes of words, and which text words are the filling of.
-- Assumes nothing.
use Rattle.std.specs.Prelude.{ℕ, zero, suc, ◌+◌, ◌-◌, ◌*◌, ◌/◌, ◌%◌, ◌^◌, ◌<◌, ◌≤◌, ◌≡◌, refl, List, [], ◌∷◌, ◌++◌, length, get_or, take, drop, replicate}
use Rattle.std.proofs.Common.{sym, ap, ◌∙◌, arith, length-drop, length-take, take_all, drop-drop, get_or-drop, get_or-take, ext_get_or}
use Rattle.std.specs.Int.{w32, from_le_bytes}
use Rattle.std.proofs.Math.ListN.{get_or-append, get_or-eq_default}
use Rattle.std.proofs.Math.Seq.{drop-nil}
use Rattle.text.proofs.Positional.{by_less}
use Rattle.grammar.specs.Format.Packing.{word_of, pack}
use Rattle.packing.specs.Words.{bytes_of, bytes, part_from, Ends, Holds}

pub part-drop : (at : ℕ) (words : List ℕ) → part_from at words ≡ drop at words
part-drop at words = take_all (length words - at) (drop at words) (simp length-drop (omega arith))

-- ---- packing

-- the words of a text are its first words and the words of what is left
pub pack-append : (m n : ℕ) (text : List ℕ) → pack (m + n) text ≡ pack m text ++ pack n (drop (4 * m) text)
unfolding pack
pack-append zero n text = let e : 0 + n ≡ n = omega arith in rw e
pack-append (suc m) n text =
    let e : suc m + n ≡ suc (m + n) = omega arith in
    let k : 4 * suc m ≡ 4 + 4 * m = omega arith in
    rw (e, k, pack-append m n (drop 4 text), drop-drop (4 * m) 4 text)

pub pack-nothing : (n : ℕ) → pack n [] ≡ replicate n 0
unfolding pack word_of
pack-nothing zero = refl
pack-nothing (suc n) = ap (λ (ws : List ℕ). 0 ∷ ws) (pack-nothing n)

-- the word of four bytes in a text, 0 past its end
pub word_at : (text : List ℕ) (at : ℕ)
    → from_le_bytes w32 (get_or text at 0 ∷ get_or text (at + 1) 0 ∷ get_or text (at + 2) 0 ∷ get_or text (at + 3) 0 ∷ []) ≡ word_of (drop at text)
unfolding word_of
word_at text at =
    let e : at + 0 ≡ at = omega arith in
    rw (get_or-drop at text 0 0, e, get_or-drop at text 1 0, get_or-drop at text 2 0, get_or-drop at text 3 0) (omega arith)

-- texts that differ in zeros at the end alone are packed alike
pack-same : (n : ℕ) (s t : List ℕ) → ((i : ℕ) → get_or s i 0 ≡ get_or t i 0) → pack n s ≡ pack n t
unfolding pack word_of
pack-same zero s t h = refl
pack-same (suc n) s t h =
    rw (h 0, h 1, h 2, h 3, pack-same n (drop 4 s) (drop 4 t) (λ i. get_or-drop 4 s i 0 ∙ h (4 + i) ∙ sym (get_or-drop 4 t i 0)))

-- ---- the bytes of words

pub none_of : (k : ℕ) → get_or (bytes_of 0) k 0 ≡ 0
unfolding bytes_of
none_of zero = refl
none_of (suc zero) = refl
none_of (suc (suc zero)) = refl
none_of (suc (suc (suc zero))) = refl
none_of (suc (suc (suc (suc k)))) = refl

pub bytes-length : (words : List ℕ) → length (bytes words) ≡ 4 * length words
unfolding bytes bytes_of
bytes-length [] = refl
bytes-length (w ∷ ws) = omega (arith, bytes-length ws)

pub bytes_drop : (i : ℕ) (words : List ℕ) → drop (4 * i) (bytes words) ≡ bytes (drop i words)
unfolding bytes bytes_of
bytes_drop zero words = refl
bytes_drop (suc i) [] = drop-nil (4 * suc i)
bytes_drop (suc i) (w ∷ ws) = let e : 4 * suc i ≡ suc (suc (suc (suc (4 * i)))) = omega arith in rw e (bytes_drop i ws)

-- byte k of word i
byte_at : (words : List ℕ) (i k : ℕ) → k < 4 → get_or (bytes words) (4 * i + k) 0 ≡ get_or (bytes_of (get_or words i 0)) k 0
unfolding bytes bytes_of
byte_at [] i k h = sym (none_of k)
byte_at (w ∷ ws) zero k h = let e : 4 * 0 + k ≡ k = omega arith in rw e (get_or-append (bytes_of w) (bytes ws) 0 k h)
byte_at (w ∷ ws) (suc i) k h =
    let e : 4 * suc i + k ≡ suc (suc (suc (suc (4 * i + k)))) = omega arith in rw e (byte_at ws i k h)

pub byte_of : (words : List ℕ) (i : ℕ) → get_or (bytes words) i 0 ≡ get_or (bytes_of (get_or words (i / 4) 0)) (i % 4) 0
byte_of words i =
    let e : i ≡ 4 * (i / 4) + i % 4 = omega arith in
    ap (λ (j : ℕ). get_or (bytes words) j 0) e ∙ byte_at words (i / 4) (i % 4) (omega arith)

digits_of : (w : ℕ) → w < 2 ^ 32 → w ≡ w % 256 + 256 * (w / 256 % 256 + 256 * (w / 256 / 256 % 256 + 256 * (w / 256 / 256 / 256 % 256)))
digits_of w h = omega arith

-- a word is made of its bytes
word_is : (w : ℕ) → w < 2 ^ 32 → w ≡ word_of (bytes_of w)
unfolding word_of bytes_of
word_is w h =
    let q : w / 65536 ≡ w / 256 / 256 = omega arith in
    let r : w / 16777216 ≡ w / 256 / 256 / 256 = omega arith in
    rw (q, r) (digits_of w h)

pack-bytes : (words : List ℕ) → ((i : ℕ) → get_or words i 0 < 2 ^ 32) → pack (length words) (bytes words) ≡ words
unfolding pack word_of bytes bytes_of
pack-bytes [] low = refl
pack-bytes (w ∷ ws) low =
    let h : w ≡ word_of (bytes_of w) = word_is w (low 0) in
    ap (λ (x : ℕ). x ∷ pack (length ws) (bytes ws)) (sym h) ∙ ap (λ (l : List ℕ). w ∷ l) (pack-bytes ws (λ i. low (suc i)))

-- the bytes of a word of four bytes
module _ (a b c d w : ℕ) (p : a < 256) (q : b < 256) (r : c < 256) (s : d < 256) (e : w ≡ a + 256 * (b + 256 * (c + 256 * d))) where
  first_of : w % 256 ≡ a
  first_of = omega arith

  second-of : w / 256 % 256 ≡ b
  second-of = let above : w / 256 ≡ b + 256 * (c + 256 * d) = omega arith in rw above (omega arith)

  third_of : w / 65536 % 256 ≡ c
  third_of = let above : w / 65536 ≡ c + 256 * d = omega arith in rw above (omega arith)

  fourth-of : w / 16777216 % 256 ≡ d
  fourth-of = let above : w / 16777216 ≡ d = omega arith in rw above (omega arith)

bytes-pack : (n : ℕ) (text : List ℕ) → ((i : ℕ) → get_or text i 0 < 256) → length text ≤ 4 * n
    → (i : ℕ) → get_or (bytes (pack n text)) i 0 ≡ get_or text i 0
unfolding pack word_of bytes bytes_of
bytes-pack zero text low h i = sym (get_or-eq_default text 0 {n = i} (omega arith))
bytes-pack (suc n) text low h zero = first_of _ _ _ _ _ (low 0) (low 1) (low 2) (low 3) refl
bytes-pack (suc n) text low h (suc zero) = second-of _ _ _ _ _ (low 0) (low 1) (low 2) (low 3) refl
bytes-pack (suc n) text low h (suc (suc zero)) = third_of _ _ _ _ _ (low 0) (low 1) (low 2) (low 3) refl
bytes-pack (suc n) text low h (suc (suc (suc zero))) = fourth-of _ _ _ _ _ (low 0) (low 1) (low 2) (low 3) refl
bytes-pack (suc n) text low h (suc (suc (suc (suc i)))) =
    let e : 4 + i ≡ suc (suc (suc (suc i))) = omega arith in
    bytes-pack n (drop 4 text) (λ j. rw (get_or-drop 4 text j 0) (low (4 + j))) (simp length-drop (omega arith)) i ∙ rw e at (get_or-drop 4 text i 0)

-- ---- the text in words

module _ {bs : List ℕ} {n : ℕ} (E : Ends bs n) where
  taken_at : (i : ℕ) → get_or (take n bs) i 0 ≡ get_or bs i 0
  taken_at i =
      by_less i n (get_or-take n bs i 0)
      (λ h. get_or-eq_default (take n bs) 0 {n = i} (simp length-take (omega arith)) ∙ sym (E.behind i h))

pub holding : {words : List ℕ} {n : ℕ} → ((i : ℕ) → get_or words i 0 < 2 ^ 32) → Ends (bytes words) n → Holds words n
holding {words} {n} low E = record {
  ends = E;
  filling = sym (pack-same (length words) (take n (bytes words)) (bytes words) (taken_at E) ∙ pack-bytes words low);
}

-- no other text without a zero byte has this filling
pub holds-only : {words : List ℕ} {n : ℕ} → Holds words n → (text : List ℕ) → words ≡ pack (length words) text → length text ≤ 4 * length words
    → ((i : ℕ) → i < length text → (0 < get_or text i 0) × (get_or text i 0 < 256)) → text ≡ take n (bytes words)
holds-only {words} {n} H text filling short each =
    ext_get_or 0 text (take n (bytes words)) (long ∙ sym cut) (λ i _. sym (taken_at H.ends i ∙ same i))
  where
    past : (i : ℕ) → length text ≤ i → get_or text i 0 ≡ 0
    past i h = get_or-eq_default text 0 {n = i} h

    low : (i : ℕ) → get_or text i 0 < 256
    low i = by_less i (length text) (λ h. (each i h).1) (λ h. omega (arith, past i h))

    same : (i : ℕ) → get_or (bytes words) i 0 ≡ get_or text i 0
    same i = ap (λ (ws : List ℕ). get_or (bytes ws) i 0) filling ∙ bytes-pack (length words) text low short i

    cut : length (take n (bytes words)) ≡ n
    cut = length-take n (bytes words) ∙ omega (arith, H.ends.within)

    long : length text ≡ n
    long =
        by_less (length text) n
        (λ h. absurd (H.ends.last (omega arith) (same (n - 1) ∙ past (n - 1) (omega arith))))
        (λ h. by_less n (length text)
        (λ k.
        absurd (omega (arith, (each (length text - 1) (omega arith)).0, same (length text - 1), H.ends.behind (length text - 1) (omega arith))))
        (λ k. omega arith))
