-- The loop that packs a text into the words of a stored book, by what holds before word i, and the words behind the text. Assumes nothing.
use Rattle.std.specs.Prelude.{ℕ, ◌+◌, ◌-◌, ◌*◌, ◌/◌, ◌<◌, ◌≤◌, ◌≡◌, refl, List, [], ◌∷◌, ◌++◌, length, get_or, take, drop, set, replicate}
use Rattle.std.proofs.Common.{sym, ap, ◌∙◌, append-nil, arith, length-append, length-drop, length-set, drop_of_length-le, take_at}
use Rattle.std.specs.Int.{w32, from_le_bytes}
use Rattle.std.proofs.Math.Seq.{append_snoc}
use Rattle.std.proofs.lemmas.List.{set_at}
use Rattle.text.proofs.RestLaws.{drop_more}
use Rattle.grammar.specs.Format.Packing.{word_of, pack, pack-length}
use Rattle.packing.specs.Words.{part_from}
use Rattle.packing.specs.WordsLaws.{part-drop, pack-append, pack-nothing, word_at}

-- the words before i are packed
pub record Packing (text old words : List ℕ) (i : ℕ) : Type 0 where
  pub within : i ≤ length text / 4
  pub long : length words ≡ length old
  pub words_are : words ≡ pack i text ++ drop i old

pub packing-start : (text words : List ℕ) → Packing text words words 0
unfolding pack
packing-start text words = record { within = omega arith; long = refl; words_are = refl }

-- a word more
packed_more : (text old : List ℕ) (i : ℕ) → i < length old
    → set (pack i text ++ drop i old) i (word_of (drop (4 * i) text)) ≡ pack (i + 1) text ++ drop (i + 1) old
unfolding pack
packed_more text old i h =
    let word : ℕ = word_of (drop (4 * i) text) in
    rw (drop_more old i h, pack-append i 1 text)
    (set_at (pack i text) (get_or old i 0) (drop (i + 1) old) word i (pack-length i text) ∙ sym (append_snoc (pack i text) word (drop (i + 1) old)))

module _ {text old words : List ℕ} {i : ℕ} (p : Packing text old words i) where
  pub packing-turn : {word : ℕ} → i < length text / 4 → length text ≤ 4 * length old
      → word ≡ from_le_bytes w32 (get_or text (4 * i) 0 ∷ get_or text (4 * i + 1) 0 ∷ get_or text (4 * i + 2) 0 ∷ get_or text (4 * i + 3) 0 ∷ [])
      → Packing text old (set words i word) (i + 1)
  packing-turn {word} h room e =
      record {
        within = omega arith;
        long = simp length-set p.long;
        words_are = rw (e ∙ word_at text (4 * i), p.words_are) (packed_more text old i (omega arith));
      }

-- a slice whose part from m on was lent and cleared
pub cleared-rest : {zeros : List ℕ} (words : List ℕ) (m : ℕ) → zeros ≡ replicate (length (part_from m words)) 0
    → take m words ++ (zeros ++ drop (length words - m) (drop m words)) ≡ take m words ++ replicate (length words - m) 0
cleared-rest words m e =
    let k : length (part_from m words) ≡ length words - m = ap length (part-drop m words) ∙ length-drop m words in
    let short : length (drop m words) ≤ length words - m = simp length-drop (omega arith) in
    rw (e, k, drop_of_length-le (drop m words) short, append-nil)

-- after the words that the text fills: nothing, or a last word and zeros
module _ {words : List ℕ} (n : ℕ) (text old : List ℕ) (e : words ≡ pack n text ++ drop n old) where
  packed-length : length words ≡ n + (length old - n)
  packed-length = ap length e ∙ simp (length-append, length-drop, pack-length)

  packed-last : {word : ℕ} → length text ≤ 4 * n + 4 → n < length words → word ≡ word_of (drop (4 * n) text)
      → take (n + 1) (set words n word) ++ replicate (length (set words n word) - (n + 1)) 0 ≡ pack (length old) text
  packed-last {word} short h w =
      rw (stored, take_at (pack (n + 1) text) (drop (n + 1) old) (n + 1) (pack-length (n + 1) text), left) (sym whole)
    where
      room : n < length old
      room = omega (arith, packed-length)

      stored : set words n word ≡ pack (n + 1) text ++ drop (n + 1) old
      stored = rw (e, w) (packed_more text old n room)

      left : length (pack (n + 1) text ++ drop (n + 1) old) - (n + 1) ≡ length old - (n + 1)
      left = simp (length-append, length-drop, pack-length) (omega arith)

      whole : pack (length old) text ≡ pack (n + 1) text ++ replicate (length old - (n + 1)) 0
      whole =
          let m : length old ≡ n + 1 + (length old - (n + 1)) = omega (arith, room) in
          let nothing : drop (4 * (n + 1)) text ≡ [] = drop_of_length-le text {i = 4 * (n + 1)} (omega arith) in
          ap (λ (k : ℕ). pack k text) m ∙ pack-append (n + 1) (length old - (n + 1)) text
          ∙ rw nothing (ap (λ (ws : List ℕ). pack (n + 1) text ++ ws) (pack-nothing (length old - (n + 1))))

  pub packed-rest : {word : ℕ} {zeros : List ℕ} → length text ≤ 4 * n + 4 → n < length words → word ≡ word_of (drop (4 * n) text)
      → zeros ≡ replicate (length (part_from (n + 1) (set words n word))) 0
      → take (n + 1) (set words n word) ++ (zeros ++ drop (length (set words n word) - (n + 1)) (drop (n + 1) (set words n word))) ≡ pack (length old) text
  packed-rest {word} short h w z = cleared-rest (set words n word) (n + 1) z ∙ packed-last short h w
