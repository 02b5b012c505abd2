-- What reading answers, by its number (01, "Turned-back input"): the lengths are asked first, then the text.
-- Assumes nothing.
use Prim.Native.Nat.{ℕ, zero, suc, ◌*◌, ◌<◌, ◌≤◌}
use Rattle.std.specs.Prelude.{◌≡◌, Bool, ◌&&◌, List, leb, length, replicate, Option, IsSome, IfSome, Result, Ok, Err, is_ok, MatchResult}
use Rattle.std.proofs.Math.Path.{refl, sym, ap}
use Rattle.std.proofs.Common.{◌∙◌, arith}
use Rattle.std.proofs.Math.Bool.{true, false}
use Rattle.std.proofs.Math.Dec.{eqb}
use borrow.Author.Tests.{le-leb, lt-leb, eq-eqb, ne_eqb, leb-true, leb-false, eqb-true, eqb-false}
use Rattle.grammar.specs.Limits.{MAX_TEXT, BOOK_WORDS}
use Rattle.grammar.specs.Format.Packing.{pack}
use Rattle.grammar.specs.Refusal.{refusal}
use Rattle.grammar.specs.Engine.{Reading, reading_of, read_book}
use Rattle.book.specs.declared.Book.{Book}
use Rattle.book.specs.declared.Room.{Room}
use Rattle.book.specs.declared.refusal.Refusal.{Refusal}
use Rattle.book.specs.Refusals.{answer_of, number-some}
use Rattle.book.specs.Rooms.{full_room}

-- the number that is answered, and every lent word afterwards
pub record Reads (reading : Reading) (number : ℕ) (words : List ℕ) : Type 0 where
  pub number_is : number ≡ reading.number
  pub words_are : words ≡ reading.words

-- the refusal of a text, where arrays have room for what it has; where there is room for all, they have
pub record Attempted (room : Room) (text : List ℕ) (read : Option (Result Unit Refusal)) : Type 0 where
  pub all : room ≡ full_room → IsSome read
  pub told : IfSome read (λ answer. answer_of answer ≡ refusal text)

-- of a text that was compiled, its book left out of the answer
pub answer-kept : (compiled : Result Book Refusal) (answer : Result Unit Refusal) → MatchResult compiled (λ _. answer ≡ Ok tt) (λ r. answer ≡ Err r)
    → answer_of answer ≡ answer_of compiled
unfolding answer_of
answer-kept (Ok _) answer e = rw e
answer-kept (Err r) answer e = rw e

-- its number is 0 where nothing is refused, and there alone
pub taken-none : (answer : Result Unit Refusal) → is_ok answer ≡ true → answer_of answer ≡ 0
unfolding answer_of
taken-none (Ok _) e = refl
taken-none (Err r) e = cc

pub refused-some : (answer : Result Unit Refusal) → is_ok answer ≡ false → answer_of answer ≡ 0 → ⊥
unfolding answer_of
refused-some (Ok _) e = cc
refused-some (Err r) e = number-some r

-- 1 for the lengths, else the number of the text
unfoldable pub read_number : List ℕ → ℕ → ℕ
read_number text lent = elim (leb (length text) MAX_TEXT && eqb lent BOOK_WORDS) [ false ↦ 1 | true ↦ refusal text ]

module _ (text : List ℕ) (lent : ℕ) where
  pub long-number : MAX_TEXT < length text → read_number text lent ≡ 1
  unfolding read_number
  long-number h = rw (lt-leb (length text) MAX_TEXT h, read_number)

  module _ (h : length text ≤ MAX_TEXT) where
    pub unfit-number : (lent ≡ BOOK_WORDS → ⊥) → read_number text lent ≡ 1
    unfolding read_number
    unfit-number n = rw (le-leb (length text) MAX_TEXT h, ne_eqb lent BOOK_WORDS n, read_number)

    pub text-number : lent ≡ BOOK_WORDS → read_number text lent ≡ refusal text
    unfolding read_number
    text-number e = rw (le-leb (length text) MAX_TEXT h, eq-eqb lent BOOK_WORDS e, read_number)

  -- the number says all
  read_is : read_book text lent ≡ reading_of (read_number text lent) text lent
  unfolding read_book read_number
  read_is = go (leb (length text) MAX_TEXT && eqb lent BOOK_WORDS) refl
    where
      go : (t : Bool) → (leb (length text) MAX_TEXT && eqb lent BOOK_WORDS) ≡ t → read_book text lent ≡ reading_of (read_number text lent) text lent
      go true e = rw (e, read_book, read_number)
      go false e = rw (e, read_book, read_number)

  -- as it is answered
  pub read_number_lem : {number : ℕ} → number ≡ (read_book text lent).number → number ≡ read_number text lent
  unfolding reading_of
  read_number_lem e = e ∙ ap (λ (reading : Reading). reading.number) read_is ∙ go (read_number text lent)
    where
      go : (n : ℕ) → (reading_of n text lent).number ≡ n
      go zero = refl
      go (suc n) = refl

  pub read_taken : {number : ℕ} {words : List ℕ} → number ≡ read_number text lent → number ≡ 0 → words ≡ pack lent text
      → Reads (read_book text lent) number words
  unfolding reading_of
  read_taken e z w = rw (read_is, sym e, z) (record { number_is = refl; words_are = w })

  pub read-refused : {number : ℕ} {words : List ℕ} → number ≡ read_number text lent → (number ≡ 0 → ⊥) → words ≡ replicate lent 0
      → Reads (read_book text lent) number words
  unfolding reading_of
  read-refused {number} {words} e n w = rw (read_is, sym e) (go number n)
    where
      go : (m : ℕ) → (m ≡ 0 → ⊥) → Reads (reading_of m text lent) m words
      go zero z = absurd (z refl)
      go (suc m) z = record { number_is = refl; words_are = w }

-- a text that is taken fits in the words
pub taken-fits : {number : ℕ} (text : List ℕ) (lent : ℕ) → number ≡ read_number text lent → number ≡ 0 → length text ≤ 4 * lent
taken-fits text lent e z = go (leb (length text) MAX_TEXT) refl (eqb lent BOOK_WORDS) refl
  where
    go : (t : Bool) → leb (length text) MAX_TEXT ≡ t → (u : Bool) → eqb lent BOOK_WORDS ≡ u → length text ≤ 4 * lent
    go false t u _ = absurd (omega (arith, sym (long-number text lent (leb-false (length text) MAX_TEXT t)) ∙ sym e ∙ z))
    go true t false u = absurd (omega (arith, sym (unfit-number text lent (leb-true (length text) MAX_TEXT t) (eqb-false lent BOOK_WORDS u)) ∙ sym e ∙ z))
    go true t true u = omega (arith, leb-true (length text) MAX_TEXT t, eqb-true lent BOOK_WORDS u)

-- opens every definition of this module
unfoldable pub opens : Unit {0}
unfolding read_number
opens = tt
