-- One byte more: what the code then keeps.
-- Assumes nothing.
use Rattle.std.specs.Prelude.{ℕ, ◌+◌, ◌-◌, ◌≤◌, ◌<◌, ◌≡◌, true, false, List, [], ◌++◌, eqb, length, take, drop, set}
use Rattle.std.proofs.Common.{sym, ap, ◌∙◌, arith, length-append}
use Rattle.std.proofs.Math.Option.{none, some}
use Rattle.grammar.specs.Limits.{MAX_TEXT}
use Rattle.console.specs.Desk.{Input, so_far, after_end, is_end, token_of, joined, one_byte}
use Rattle.console.specs.Holds.{HoldsBook, HoldsTokens}
use Rattle.console.specs.Kept.{Kept, kept-none}
use Rattle.console.specs.Lines.{TOKEN_BYTES}
use Rattle.console.specs.Settled.{Settled}
use Rattle.console.proofs.Settled.{settled-more, long-settled, misspelt-settled, overlong-settled}
use Rattle.console.specs.Stands.{Stands}
use Rattle.console.proofs.Stands.{stands-more, stands-joined, stands-line, stands-alone}
use Rattle.console.proofs.Steps.{◌▷◌, byte-ends, byte-goes-on, line-ends, line-goes-on, line-tokens, some-joined, joined-none}

-- in the book's text

module _ {text : List ℕ} {line at : ℕ} {i : Input} (h : HoldsBook text line at i) (b : ℕ) where
  abbrev more : at < length text → Stands (set text at b) h.whole_lines (h.at_hand ▷ b) line (at + 1)
  more r = stands-more h.stands b r

  -- there is no room for the byte
  pub book-full : MAX_TEXT ≤ at → Settled 1 (one_byte i b)
  book-full l =
      rw h.input_is
      (long-settled h.whole_lines h.at_hand b (omega (arith, h.stands.line_is, length-append h.whole_lines h.at_hand)))

  module _ (room : at < length text) (l : at < MAX_TEXT) where
    pub book-goes-on : eqb b 10 ≡ false → HoldsBook (set text at b) line (at + 1) (one_byte i b)
    book-goes-on q =
        record {
          whole_lines = h.whole_lines;
          at_hand = h.at_hand ▷ b;
          input_is = ap (λ j. one_byte j b) h.input_is ∙ byte-goes-on _ h.at_hand b q;
          stands = more room;
          short = omega arith;
        }

    module _ (q : eqb b 10 ≡ true) where
      pub book-line : is_end (take (at + 1 - line) (drop line (set text at b))) ≡ false → HoldsBook (set text at b) (at + 1) (at + 1) (one_byte i b)
      book-line e =
          record {
            whole_lines = h.whole_lines ++ (h.at_hand ▷ b);
            at_hand = [];
            input_is =
                ap (λ j. one_byte j b) h.input_is ∙ (byte-ends _ h.at_hand b q
                ∙ ap (λ k. so_far k []) (line-goes-on h.whole_lines (h.at_hand ▷ b) (ap is_end (sym (stands-line (more room))) ∙ e)));
            stands = stands-joined (more room);
            short = omega arith;
          }

      pub book-ends : is_end (take (at + 1 - line) (drop line (set text at b))) ≡ true → (buffer : List ℕ)
          → HoldsTokens (set text at b) buffer (at + 1) (at + 1) 0 (one_byte i b)
      book-ends e buffer =
          record {
            its_text = h.whole_lines ++ (h.at_hand ▷ b);
            numbers = [];
            at_hand = [];
            input_is =
                ap (λ j. one_byte j b) h.input_is ∙ (byte-ends _ h.at_hand b q
                ∙ ap (λ k. so_far k []) (line-ends h.whole_lines (h.at_hand ▷ b) (ap is_end (sym (stands-line (more room))) ∙ e)));
            stands = stands-joined (more room);
            short = omega arith;
            line_short = omega arith;
            kept = kept-none buffer;
          }

-- in the token lines

module _ {text buffer : List ℕ} {book at count : ℕ} {i : Input} (h : HoldsTokens text buffer book at count i) (b : ℕ) where
  short_text : length h.its_text ≤ MAX_TEXT
  short_text = omega (arith, h.short, h.stands.front_is)

  -- the line is as long as a token line can be, and not ended
  pub tokens-full : book + TOKEN_BYTES ≤ at → Settled 2 (one_byte i b)
  tokens-full l =
      settled-more b
      (rw h.input_is
      (overlong-settled h.its_text short_text (some h.numbers) h.at_hand (omega (arith, h.stands.line_is, h.stands.front_is))))

  module _ (room : at < length text) (l : at < book + TOKEN_BYTES) where
    pub tokens-go-on : eqb b 10 ≡ false → HoldsTokens (set text at b) buffer book (at + 1) count (one_byte i b)
    tokens-go-on q =
        record {
          its_text = h.its_text;
          numbers = h.numbers;
          at_hand = h.at_hand ▷ b;
          input_is = ap (λ j. one_byte j b) h.input_is ∙ byte-goes-on _ h.at_hand b q;
          stands = stands-more h.stands b room;
          short = h.short;
          line_short = omega arith;
          kept = h.kept;
        }

    module _ (q : eqb b 10 ≡ true) where
      abbrev line : List ℕ
      line = take (at + 1 - book) (drop book (set text at b))

      next-is : one_byte i b ≡ so_far (after_end h.its_text (joined (some h.numbers) (token_of line))) []
      next-is =
          ap (λ j. one_byte j b) h.input_is ∙ (byte-ends _ h.at_hand b q
          ∙ (ap (λ k. so_far k []) (line-tokens h.its_text (h.at_hand ▷ b) (some h.numbers))
          ∙ ap (λ k. so_far (after_end h.its_text (joined (some h.numbers) (token_of k))) []) (sym (stands-line (stands-more h.stands b room)))))

      pub token-misspelt : token_of line ≡ none → Settled 2 (one_byte i b)
      token-misspelt e = rw (next-is, e, joined-none (some h.numbers)) (misspelt-settled h.its_text short_text [])

      pub token-read : {after new : List ℕ} {count' : ℕ} → token_of line ≡ some new → Kept after count' (h.numbers ++ new)
          → HoldsTokens (set text at b) after book book count' (one_byte i b)
      token-read {new = new} e k =
          record {
            its_text = h.its_text;
            numbers = h.numbers ++ new;
            at_hand = [];
            input_is = next-is ∙ rw (e, some-joined h.numbers new);
            stands = stands-alone (stands-more h.stands b room);
            short = h.short;
            line_short = omega arith;
            kept = k;
          }
