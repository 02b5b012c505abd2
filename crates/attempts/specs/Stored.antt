-- The book of stored words (01, refusal 11): what is asked of the words, and what is known where a book is found.
-- Assumes nothing.
use Rattle.std.specs.Prelude.{ℕ, zero, suc, ◌<◌, ◌≤◌, ◌≡◌, refl, List, length, get_or, take, Some, Ok, Err}
use Rattle.std.proofs.Common.{sym, ap, ◌∙◌, arith, length-take, ne_eqb}
use Rattle.std.proofs.Math.Option.{Option as Sought, none, some}
use Rattle.grammar.specs.Limits.{MAX_TEXT, BOOK_WORDS}
use Rattle.grammar.specs.Data.Book.{Book as Lines}
use Rattle.grammar.specs.Format.Packing.{pack}
use Rattle.grammar.specs.Format.PrintLaws.{Printable, line_end, byte, print-printable}
use Rattle.grammar.specs.Refusal.{Taken, taken, refusal}
use Rattle.grammar.proofs.RefusalLaws.{verdict-refusal}
use Rattle.grammar.specs.Engine.{stored_book}
use Rattle.grammar.specs.Demands.{Stored}
use Rattle.grammar.proofs.StoredLaws.{refusal-taken, taken-parsed, stored-found, found-stored}
use Rattle.book.specs.declared.Book.{Book}
use Rattle.book.specs.declared.Room.{Room}
use Rattle.book.specs.declared.refusal.Refusal.{Refusal}
use Rattle.packing.specs.Words.{bytes, Holds}
use Rattle.packing.specs.WordsLaws.{bytes-length, holds-only}
use Rattle.compiler.specs.Compiled.{compiled-taken, refused-some}
use Rattle.compiler.specs.Compiling.{Compiles}
use Rattle.messages.specs.Messages.{TakenBook}

-- there are as many words as a stored book has, and the first `count` bytes of a text are the text in them
pub record Found (words text : List ℕ) (count : ℕ) : Type 0 where
  pub all_words : length words ≡ BOOK_WORDS
  pub holds : Holds words count
  pub within : count ≤ MAX_TEXT
  pub inside : count ≤ length text
  pub text_is : take count text ≡ take count (bytes words)

-- words of another number hold no book
pub unfit-none : (words : List ℕ) → (length words ≡ BOOK_WORDS → ⊥) → stored_book words ≡ none
unfolding stored_book
unfit-none words n = rw (ne_eqb (length words) BOOK_WORDS n, stored_book)

pub found-text : {words text : List ℕ} {count : ℕ} → length words ≡ BOOK_WORDS → Holds words count → take count text ≡ take count (bytes words)
    → count ≤ length text → Found words text count
found-text {words} l h e inside =
    record { all_words = l; holds = h; within = omega (arith, l, h.ends.within, bytes-length words); inside = inside; text_is = e }

-- ---- the book in the words

-- no byte of a printed text is 0
printed : {bs : List ℕ} → Printable bs → (i : ℕ) → i < length bs → (0 < get_or bs i 0) × (get_or bs i 0 < 256)
printed line_end zero h = (omega arith, omega arith)
printed line_end (suc i) h = absurd (omega arith)
printed (byte l k p) zero h = (omega arith, omega arith)
printed (byte l k p) (suc i) h = printed p i (omega arith)

module _ {words text : List ℕ} {count : ℕ} (F : Found words text count) where
  -- a taken text that fills the words is the text in them
  stored-text : (s : Stored words) → s.text ≡ take count text
  stored-text s =
      let t = s.its_book in
      let filling : words ≡ pack (length words) s.text = rw F.all_words s.filling in
      holds-only F.holds s.text filling (omega (arith, s.short_text, F.all_words)) (rw t.its_text (printed (print-printable t.book)))
      ∙ sym F.text_is

  -- and the text in them fills them
  stored : Taken (take count text) → Stored words
  stored t = record {
    text = take count text;
    its_book = t;
    short_text = omega (arith, length-take count text, F.within);
    filling = F.holds.filling ∙ rw (F.all_words, F.text_is);
  }

  module _ {inherited synthesized rules definitions kernels goes : List ℕ}
      {nullables reaches bounds closures table actions : List ℕ} {room : Room} where
    -- where the text in the words is refused, they hold no book
    pub found_none : {refused : Refusal}
        → Compiles room (take count text) (Some (Err refused)) inherited synthesized rules definitions kernels goes nullables reaches bounds closures
        table actions
        → stored_book words ≡ none
    found_none c = go (stored_book words) refl
      where
        go : (o : Sought Lines) → stored_book words ≡ o → stored_book words ≡ none
        go none q = q
        go (some b) q =
            let (s, same) = found-stored words b q in
            absurd (refused-some c refl (ap refusal (sym (stored-text s)) ∙ verdict-refusal s.text (taken s.its_book)))

    -- else there is a book, which is taken, and in the arrays
    pub found-book : {numbers : Book}
        → Compiles room (take count text) (Some (Ok numbers)) inherited synthesized rules definitions kernels goes nullables reaches bounds closures
        table actions
        → (b : Lines) × (stored_book words ≡ some b)
        × TakenBook numbers inherited synthesized rules definitions kernels goes nullables reaches bounds closures table actions b
    unfolding stored
    found-book {numbers} c =
        let t = refusal-taken (take count text) (compiled-taken c refl) in (
          t.book,
          stored-found words (stored t),
          record { ready = c.ready numbers refl t.book (taken-parsed t); spelled = t.spelled; sound = t.sound },
        )
