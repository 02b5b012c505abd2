-- A number of one digit or two with the byte after it, by its bytes.
-- Assumes nothing.
use Rattle.std.specs.Prelude.{ℕ, ◌+◌, ◌*◌, ◌-◌, ◌<◌, ◌≤◌, ◌≡◌, refl, true, not, ◌&&◌, List, ◌∷◌, eqb, length, get_or, drop}
use Rattle.std.proofs.Common.{arith, sym, ap, ◌∙◌, eqb-true}
use Rattle.std.proofs.lemmas.Bool.{eqb-false, not-true}
use Rattle.text.specs.Class.{class_of, digit, space}
use Rattle.text.proofs.ClassLaws.{digit-range}
use Rattle.text.specs.Rest.{rest, left, mark}
use Rattle.text.proofs.RestLaws.{rest_in, drop_more}
use Rattle.text.specs.Numeral.{decimal, write, value, past}
use Rattle.text.proofs.NumeralLaws.{value-number, past-number}
use Rattle.text.specs.Positional.{no_digit}
use Rattle.text.specs.Reading.{Reads}
use Rattle.grammar.specs.Format.ReaderLaws.{reading}
use Rattle.grammar.specs.Automaton.TestLaws.{both_true}
use Rattle.book.specs.Short.{one_written, more-written}

-- a number at a position, the byte that ends it, and the position after that byte
pub record Stands (text : List ℕ) (at number stop next : ℕ) : Type 0 where
  pub bytes_are : drop at text ≡ write decimal number (stop ∷ drop next text)
  pub small : number < 100
  pub near : next ≤ at + 3
  pub far : at + 2 ≤ next
  pub ends : get_or text (next - 1) 0 ≡ stop

-- the k-th byte from a position on
pub byte-is : (text : List ℕ) (at k : ℕ) → at + k < length text → drop (at + k) text ≡ get_or text (at + k) 0 ∷ drop (at + (k + 1)) text
byte-is text at k h =
    let e : at + k + 1 ≡ at + (k + 1) = omega arith in
    drop_more text (at + k) h ∙ ap (λ (i : ℕ). get_or text (at + k) 0 ∷ drop i text) e

-- the tests of a second digit, where a class is as it was looked up: the first digit is not 0
pub record Second (text : List ℕ) (at stop : ℕ) : Type 0 where
  pub not_zero : get_or text at 0 ≡ 48 → ⊥
  pub digit_is : class_of (get_or text (at + 1) 0) ≡ digit
  pub stop_is : get_or text (at + 2) 0 ≡ stop

pub second-of : (text : List ℕ) (at stop : ℕ) {class : ℕ} → class ≡ class_of (get_or text (at + 1) 0)
    → (not (eqb (get_or text at 0) 48) && eqb class digit) && eqb (get_or text (at + 2) 0) stop ≡ true → Second text at stop
second-of text at stop {class} c e =
    let (digits, third) = both_true (not (eqb (get_or text at 0) 48) && eqb class digit) (eqb (get_or text (at + 2) 0) stop) e in
    let (zero, second) = both_true (not (eqb (get_or text at 0) 48)) (eqb class digit) digits in
    record {
      not_zero = eqb-false _ _ (not-true _ zero);
      digit_is = sym c ∙ eqb-true _ _ second;
      stop_is = eqb-true _ _ third;
    }

module _ (text : List ℕ) (at : ℕ) (h : at + 3 ≤ length text) (first : class_of (get_or text at 0) ≡ digit) where
  pub one-stands : {stop : ℕ} → get_or text (at + 1) 0 ≡ stop → Stands text at (get_or text at 0 - 48) stop (at + 2)
  one-stands {stop} e =
      let last : at + 2 - 1 ≡ at + 1 = omega arith in
      record {
        bytes_are =
            drop_more text at (omega arith) ∙ (ap (λ r. get_or text at 0 ∷ r) (byte-is text at 1 (omega arith) ∙ ap (λ (b : ℕ). b ∷ drop (at + 2) text) e)
            ∙ sym (one_written (get_or text at 0) (stop ∷ drop (at + 2) text) first));
        small = omega (arith, digit-range _ first);
        near = omega arith;
        far = omega arith;
        ends = rw last e;
      }

  pub two-stand : {stop : ℕ} → Second text at stop → Stands text at ((get_or text at 0 - 48) * 10 + (get_or text (at + 1) 0 - 48)) stop (at + 3)
  two-stand {stop} s =
      let last : at + 3 - 1 ≡ at + 2 = omega arith in
      let above : 0 < get_or text at 0 - 48 = omega (arith, digit-range _ first, s.not_zero) in
      record {
        bytes_are =
            drop_more text at (omega arith)
            ∙ (ap (λ r. get_or text at 0 ∷ r) (byte-is text at 1 (omega arith)
            ∙ ap (λ r. get_or text (at + 1) 0 ∷ r) (byte-is text at 2 (omega arith) ∙ ap (λ (b : ℕ). b ∷ drop (at + 3) text) s.stop_is))
            ∙ sym (more-written (get_or text at 0 - 48) _ (get_or text (at + 1) 0) (stop ∷ drop (at + 3) text) above s.digit_is refl
            ∙ one_written (get_or text at 0) (get_or text (at + 1) 0 ∷ stop ∷ drop (at + 3) text) first));
        small = omega (arith, digit-range _ first, digit-range _ s.digit_is);
        near = omega arith;
        far = omega arith;
        ends = rw last s.stop_is;
      }

-- Where a space ends the number

space-ends : (r : List ℕ) → no_digit decimal (32 ∷ r) ≡ true
unfolding reading
space-ends r = refl

space-passed : (r : List ℕ) → mark space (left (32 ∷ r)) ≡ left r
unfolding reading
space-passed r = refl

module _ {text : List ℕ} {at number next : ℕ} (s : Stands text at number 32 next) (h : next ≤ length text) where
  pub stands-stop : rest text (next - 1) ≡ left (32 ∷ drop next text)
  stands-stop =
      let e : next - 1 + 1 ≡ next = omega (arith, s.far) in
      rest_in text (next - 1) (omega arith)
      ∙ ap left (drop_more text (next - 1) (omega (arith, s.far))
      ∙ (ap (λ (b : ℕ). b ∷ drop (next - 1 + 1) text) s.ends ∙ ap (λ (i : ℕ). 32 ∷ drop i text) e))

  pub stands-reads : Reads decimal text at number (next - 1)
  stands-reads =
      let here : rest text at ≡ left (write decimal number (32 ∷ drop next text)) = rest_in text at (omega (arith, s.far)) ∙ ap left s.bytes_are in
      record {
        value_is = sym (ap (value decimal) here ∙ value-number number (32 ∷ drop next text) (omega (arith, s.small)) (space-ends (drop next text)));
        rest_is = stands-stop
            ∙ sym (ap (past decimal) here ∙ past-number number (32 ∷ drop next text) (omega (arith, s.small)) (space-ends (drop next text)));
      }

  pub stands-space : rest text next ≡ mark space (rest text (next - 1))
  stands-space = rest_in text next h ∙ sym (ap (mark space) stands-stop ∙ space-passed (drop next text))
