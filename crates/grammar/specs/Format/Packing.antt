-- The words of a stored book: its text, four bytes to a word, lowest byte first, zeros after. A taken text holds no zero byte, so it ends at the
-- first one. Assumes nothing.
use Rattle.std.specs.Prelude.{ℕ, zero, suc, ◌+◌, ◌*◌, ◌/◌, ◌%◌, ◌<◌, ◌≤◌, ◌≡◌, refl, List, [], ◌∷◌, length, get_or, drop}
use Rattle.std.proofs.Common.{sym, ap, ◌∙◌, arith}

-- the word of the first four bytes
unfoldable pub word_of : List ℕ → ℕ
word_of bs = get_or bs 0 0 + 256 * (get_or bs 1 0 + 256 * (get_or bs 2 0 + 256 * get_or bs 3 0))

-- a text in `count` words
unfoldable pub pack : ℕ → List ℕ → List ℕ
pack zero bs = []
pack (suc count) bs = word_of bs ∷ pack count (drop 4 bs)

-- a byte in front, if it is not 0: there the text ends
unfoldable pub before : ℕ → List ℕ → List ℕ
before zero bs = []
before (suc n) bs = suc n ∷ bs

-- the bytes of the words up to the first zero byte
unfoldable pub unpack : List ℕ → List ℕ
unpack [] = []
unpack (w ∷ ws) = before (w % 256) (before (w / 256 % 256) (before (w / 65536 % 256) (before (w / 16777216 % 256) (unpack ws))))

-- every byte is 1 to 255
pub data Bytes : List ℕ → Type 0 where
  no_bytes : Bytes []
  and_bytes : {c : ℕ} {bs : List ℕ} → 0 < c → c < 256 → Bytes bs → Bytes (c ∷ bs)

before-byte : (c : ℕ) (bs : List ℕ) → 0 < c → before c bs ≡ c ∷ bs
unfolding before
before-byte zero bs h = absurd (omega arith)
before-byte (suc c) bs h = refl

-- a word's four bytes
bytes_of : (a b c d w : ℕ) (bs : List ℕ) → a < 256 → b < 256 → c < 256 → d < 256 → w ≡ a + 256 * (b + 256 * (c + 256 * d))
    → before (w % 256) (before (w / 256 % 256) (before (w / 65536 % 256) (before (w / 16777216 % 256) bs))) ≡ before a (before b (before c (before d bs)))
bytes_of a b c d w bs p q r s e =
    let i : w % 256 ≡ a = omega arith in
    let j₀ : w / 256 ≡ b + 256 * (c + 256 * d) = omega arith in
    let j : w / 256 % 256 ≡ b = rw j₀ (omega arith) in
    let k₀ : w / 65536 ≡ c + 256 * d = omega arith in
    let k : w / 65536 % 256 ≡ c = rw k₀ (omega arith) in
    let l₀ : w / 16777216 ≡ d = omega arith in
    let l : w / 16777216 % 256 ≡ d = rw l₀ (omega arith) in
    rw (i, j, k, l)

-- what is packed is unpacked
pub unpack-pack : (count : ℕ) (text : List ℕ) → Bytes text → length text ≤ 4 * count → unpack (pack count text) ≡ text
unfolding unpack pack word_of before
unpack-pack zero [] t h = refl
unpack-pack zero (c ∷ text) t h = absurd (omega arith)
unpack-pack (suc count) [] t h = bytes_of 0 0 0 0 0 (unpack (pack count [])) (omega arith) (omega arith) (omega arith) (omega arith) refl
unpack-pack (suc count) (a ∷ []) (and_bytes p q t) h =
    bytes_of a 0 0 0 _ (unpack (pack count [])) q (omega arith) (omega arith) (omega arith) refl ∙ before-byte a [] p
unpack-pack (suc count) (a ∷ b ∷ []) (and_bytes p q (and_bytes p₁ q₁ t)) h =
    bytes_of a b 0 0 _ (unpack (pack count [])) q q₁ (omega arith) (omega arith) refl ∙ rw (before-byte b [] p₁) (before-byte a _ p)
unpack-pack (suc count) (a ∷ b ∷ c ∷ []) (and_bytes p q (and_bytes p₁ q₁ (and_bytes p₂ q₂ t))) h =
    bytes_of a b c 0 _ (unpack (pack count [])) q q₁ q₂ (omega arith) refl
    ∙ rw (before-byte c [] p₂, before-byte b (c ∷ []) p₁) (before-byte a _ p)
unpack-pack (suc count) (a ∷ b ∷ c ∷ d ∷ text) (and_bytes p q (and_bytes p₁ q₁ (and_bytes p₂ q₂ (and_bytes p₃ q₃ t)))) h =
    bytes_of a b c d _ (unpack (pack count text)) q q₁ q₂ q₃ refl
    ∙ rw (unpack-pack count text t (omega arith), before-byte d text p₃, before-byte c (d ∷ text) p₂, before-byte b (c ∷ d ∷ text) p₁) (before-byte a _ p)

-- so no two texts share a filling
pub pack-injective : (count : ℕ) (s t : List ℕ) → Bytes s → Bytes t → length s ≤ 4 * count → length t ≤ 4 * count → pack count s ≡ pack count t → s ≡ t
pack-injective count s t p q h k e = sym (unpack-pack count s p h) ∙ ap unpack e ∙ unpack-pack count t q k

pub pack-length : (count : ℕ) (text : List ℕ) → length (pack count text) ≡ count
unfolding pack
pack-length zero text = refl
pack-length (suc count) text = ap suc (pack-length count (drop 4 text))

-- opens every definition of this module
unfoldable pub opens : Unit {0}
unfolding word_of pack before unpack
opens = tt
