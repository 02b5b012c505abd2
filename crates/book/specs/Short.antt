-- Numbers of one to three digits and the symbols that have such numbers, told by their bytes: what is answered of one, and the laws by its bytes.
-- Assumes nothing.
use Rattle.std.specs.Prelude.{ℕ, ◌+◌, ◌*◌, ◌-◌, ◌<◌, ◌≤◌, ◌≡◌, ◌&&◌, ◌||◌, List, ◌∷◌, length, get_or, drop}
use Rattle.std.proofs.Common.{arith, sym, ap, ◌∙◌, eq-eqb, eqb-true}
use Rattle.std.proofs.Math.Path.{refl}
use Rattle.std.proofs.Math.Bool.{true}
use Rattle.std.proofs.Math.Dec.{eqb}
use Rattle.text.specs.Class.{class_of, digit, letter, space}
use Rattle.text.proofs.ClassLaws.{digit-range, letter-range}
use Rattle.text.specs.Rest.{rest, left, must, mark}
use Rattle.text.proofs.RestLaws.{rest_in, rest_at, drop_more, must-true}
use Rattle.text.specs.Numeral.{decimal, letters, got, digit_of, numeral, write, number_of, rest_of, read, value, past, spelled, word_of, keyword}
use Rattle.text.proofs.NumeralLaws.{value-number, past-number, no-digit-other}
use Rattle.text.specs.Positional.{no_digit}
use Rattle.text.proofs.Positional.{decimal-positional, digit_is, numeral-first, write-small, write-more}
use Rattle.text.specs.Reading.{Reads}
use Rattle.grammar.specs.Format.Reader.{result, remaining, closing, naming}
use Rattle.grammar.specs.Format.ReaderLaws.{reading, word-ends}
use Rattle.grammar.specs.Data.Symbol.{Symbol, terminal, nonterminal}
use Rattle.grammar.specs.Format.Parse.{symbol_of, symbol}
use Rattle.grammar.specs.Automaton.TestLaws.{both_true}
use Rattle.book.specs.Sections.{Gives}

-- a short number at a position: the number and the position after it
pub record Brief (text : List ℕ) (at number next : ℕ) : Type 0 where
  pub near : next ≤ at + 3
  pub written : drop at text ≡ write decimal number (drop next text)
  pub reads : Reads decimal text at number next

-- the digits, one after another
pub one_written : (b : ℕ) (r : List ℕ) → class_of b ≡ digit → write decimal (b - 48) r ≡ b ∷ r
one_written b r c =
    let (low, high) = digit-range b c in
    let e : 48 + (b - 48) ≡ b = omega arith in
    write-small decimal decimal-positional (b - 48) r (omega arith) ∙ ap (λ (k : ℕ). k ∷ r) e

pub more-written : (a n d : ℕ) (r : List ℕ) → 0 < a → class_of d ≡ digit → n ≡ a * 10 + (d - 48) → write decimal n r ≡ write decimal a (d ∷ r)
more-written a n d r h c e =
    let (low, high) = digit-range d c in
    let same : 48 + (d - 48) ≡ d = omega arith in
    rw e (write-more decimal decimal-positional a (d - 48) r h (omega arith) ∙ ap (λ (k : ℕ). write decimal a (k ∷ r)) same)

module _ (text : List ℕ) (at : ℕ) (long : at + 4 ≤ length text) where
  byte-is : (k : ℕ) → k ≤ 3 → drop (at + k) text ≡ get_or text (at + k) 0 ∷ drop (at + (k + 1)) text
  byte-is k h =
      let e : at + k + 1 ≡ at + (k + 1) = omega arith in
      drop_more text (at + k) (omega arith) ∙ ap (λ (i : ℕ). get_or text (at + k) 0 ∷ drop i text) e

  -- the number n is written up to the byte k, which is no digit
  brief-to : (n k : ℕ) → n < 1000 → k ≤ 3 → drop at text ≡ write decimal n (drop (at + k) text) → (class_of (get_or text (at + k) 0) ≡ digit → ⊥)
      → Brief text at n (at + k)
  brief-to n k l h e m =
      let stop : no_digit decimal (drop (at + k) text) ≡ true = rw (byte-is k h) (no-digit-other (get_or text (at + k) 0) (drop (at + (k + 1)) text) m) in
      let here : rest text at ≡ left (write decimal n (drop (at + k) text)) = rest_in text at (omega arith) ∙ ap left e in
      record {
        near = omega arith;
        written = e;
        reads = record {
          value_is = sym (ap (value decimal) here ∙ value-number n (drop (at + k) text) (omega arith) stop);
          rest_is = rest_in text (at + k) (omega arith) ∙ sym (ap (past decimal) here ∙ past-number n (drop (at + k) text) (omega arith) stop);
        };
      }

  module _ (first : class_of (get_or text at 0) ≡ digit) where
    first_is : drop at text ≡ get_or text at 0 ∷ drop (at + 1) text
    first_is = drop_more text at (omega arith)

    pub one_digit : (class_of (get_or text (at + 1) 0) ≡ digit → ⊥) → Brief text at (get_or text at 0 - 48) (at + 1)
    one_digit m =
        brief-to (get_or text at 0 - 48) 1 (omega (arith, digit-range _ first)) (omega arith) (first_is ∙ sym (one_written _ _ first)) m

    -- the first digit is not 0
    module _ (some : get_or text at 0 ≡ 48 → ⊥) (second : class_of (get_or text (at + 1) 0) ≡ digit) where
      two-are : drop at text ≡ write decimal (get_or text at 0 * 10 + get_or text (at + 1) 0 - 528) (drop (at + 2) text)
      two-are =
          let (low, high) = digit-range _ first in
          let (low₁, high₁) = digit-range _ second in
          first_is ∙ ap (λ r. get_or text at 0 ∷ r) (byte-is 1 (omega arith)) ∙ sym (one_written _ _ first)
          ∙ sym (more-written (get_or text at 0 - 48) _ _ (drop (at + 2) text) (omega arith) second (omega arith))

      pub two_digits : (class_of (get_or text (at + 2) 0) ≡ digit → ⊥) → Brief text at (get_or text at 0 * 10 + get_or text (at + 1) 0 - 528) (at + 2)
      two_digits m = brief-to _ 2 (omega (arith, digit-range _ first, digit-range _ second)) (omega arith) two-are m

      pub three-digits : class_of (get_or text (at + 2) 0) ≡ digit → (class_of (get_or text (at + 3) 0) ≡ digit → ⊥)
          → Brief text at ((get_or text at 0 * 10 + get_or text (at + 1) 0) * 10 + get_or text (at + 2) 0 - 5328) (at + 3)
      three-digits third m =
          let (low, high) = digit-range _ first in
          let (low₁, high₁) = digit-range _ second in
          let (low₂, high₂) = digit-range _ third in
          brief-to _ 3 (omega arith) (omega arith)
          (two-are ∙ ap (write decimal (get_or text at 0 * 10 + get_or text (at + 1) 0 - 528)) (byte-is 2 (omega arith))
          ∙ sym (more-written (get_or text at 0 * 10 + get_or text (at + 1) 0 - 528) _ _ (drop (at + 3) text) (omega arith) third (omega arith)))
          m

-- What stands before a short number or behind it

-- a space by its byte
pub space-at : (text : List ℕ) (at : ℕ) → at < length text → get_or text at 0 ≡ 32 → rest text (at + 1) ≡ mark space (rest text at)
unfolding reading
space-at text at h e = rw (rest_at text at h, e) (rest_in text (at + 1) (omega arith))

-- a bracket and the line feed
pub end-at : (text : List ℕ) (at : ℕ) → at + 1 < length text → eqb (get_or text at 0) 41 && eqb (get_or text (at + 1) 0) 10 ≡ true
    → rest text (at + 2) ≡ closing (rest text at)
unfolding reading
end-at text at h e =
    let (bracket, feed) = both_true _ _ e in
    let first : get_or text at 0 ≡ 41 = eqb-true _ _ bracket in
    let second : get_or text (at + 1) 0 ≡ 10 = eqb-true _ _ feed in
    let same : at + 1 + 1 ≡ at + 2 = omega arith in
    rest_in text (at + 2) (omega arith) ∙ rw (rest_at text at (omega arith), first, drop_more text (at + 1) h, second, same)

-- a letter is a word of its own
letter-ends : (b n : ℕ) (r : List ℕ) → class_of b ≡ letter → numeral letters (b ∷ write decimal n r) ≡ got (b - 96) (write decimal n r)
letter-ends b n r c =
    let (low, high) = letter-range b c in
    let e : digit_of letters b ≡ b - 96 = digit_is letters b c in
    numeral-first letters b _ (λ q. absurd (omega arith)) (λ q. absurd (omega arith)) (omega arith) ∙ rw e (word-ends (b - 96) n r)

pub letter-reads : (text : List ℕ) (at : ℕ) {number next : ℕ} → at < length text → class_of (get_or text at 0) ≡ letter → Brief text (at + 1) number next
    → Reads letters text at (get_or text at 0 - 96) (at + 1)
unfolding value past read number_of rest_of
letter-reads text at {number} {next} h c brief =
    let e : rest text at ≡ left (get_or text at 0 ∷ write decimal number (drop next text)) = rest_at text at h ∙ rw (brief.written) in
    let f : rest text (at + 1) ≡ left (write decimal number (drop next text)) = rest_in text (at + 1) (omega arith) ∙ ap left (brief.written) in
    record { value_is = rw (e, letter-ends _ number (drop next text) c); rest_is = f ∙ rw (e, letter-ends _ number (drop next text) c) }

-- a letter as a number in base 32: 96 more is its byte
abbrev pub Letter : ℕ → Type 0
Letter w = class_of (w + 96) ≡ letter

-- a letter by its byte, and one after a space
pub keyword-at : (text : List ℕ) (at w : ℕ) {number next : ℕ} → at < length text → Letter w → get_or text at 0 ≡ w + 96
    → Brief text (at + 1) number next → rest text (at + 1) ≡ keyword w (rest text at)
unfolding keyword
keyword-at text at w h c e brief =
    let read : Reads letters text at (get_or text at 0 - 96) (at + 1) = letter-reads text at h (ap class_of e ∙ c) brief in
    let same : get_or text at 0 - 96 ≡ w = omega arith in
    read.rest_is ∙ sym (must-true _ _ (eq-eqb _ _ (sym read.value_is ∙ same)))

pub naming-at : (text : List ℕ) (at w : ℕ) {number next : ℕ} → at + 1 < length text → Letter w → get_or text at 0 ≡ 32
    → get_or text (at + 1) 0 ≡ w + 96 → Brief text (at + 2) number next → rest text (at + 2) ≡ naming w (rest text at)
unfolding naming
naming-at text at w {number} {next} h c blank e brief =
    let two : at + 2 ≡ at + 1 + 1 = omega arith in
    let near : Brief text (at + 1 + 1) number next = rw (sym two) brief in
    ap (rest text) two ∙ (keyword-at text (at + 1) w h c e near ∙ ap (keyword w) (space-at text at (omega arith) blank))

-- Symbols

-- by its parts: a word that is one of the letters, and a number
pub symbol-parts : {text : List ℕ} {at word p₁ p₂ K p₃ : ℕ} {X : Symbol} → Reads letters text at word p₁
    → rest text p₂ ≡ must (eqb word (word_of "t") || eqb word (word_of "n")) (rest text p₁) → Reads decimal text p₂ K p₃
    → X ≡ symbol_of (eqb word (word_of "t")) K → Gives (symbol (rest text at)) text X p₃
unfolding symbol result remaining
symbol-parts word some number kind = record { result_is = cc; remaining_is = cc }

-- by its letter and a short number
pub record BriefSymbol (text : List ℕ) (at : ℕ) (X : Symbol) (next : ℕ) : Type 0 where
  pub near : next ≤ at + 4
  pub gives : Gives (symbol (rest text at)) text X next

module _ (text : List ℕ) (at : ℕ) {K next : ℕ} (h : at < length text) (brief : Brief text (at + 1) K next) where
  symbol-by : {X : Symbol} (w : ℕ) → class_of (get_or text at 0) ≡ letter → w ≡ get_or text at 0 - 96
      → (eqb w (word_of "t") || eqb w (word_of "n")) ≡ true → X ≡ symbol_of (eqb w (word_of "t")) K → BriefSymbol text at X next
  symbol-by w c e some kind =
      let word : Reads letters text at w (at + 1) = rw e (letter-reads text at h c brief) in
      record { near = omega (arith, brief.near); gives = symbol-parts word (sym (must-true _ _ some)) brief.reads kind }

  pub terminal-by : get_or text at 0 ≡ 116 → BriefSymbol text at (terminal K) next
  unfolding class_of spelled symbol_of
  terminal-by e = symbol-by 20 (rw e) (omega arith) refl refl

  pub nonterminal-by : get_or text at 0 ≡ 110 → BriefSymbol text at (nonterminal K) next
  unfolding class_of spelled symbol_of
  nonterminal-by e = symbol-by 14 (rw e) (omega arith) refl refl
