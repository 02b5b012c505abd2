-- Reading a book's text is the inverse of printing it, both ways: `parse_book` finds the one book whose text it is, or there is none.
-- Assumes nothing.
use Rattle.std.specs.Prelude.{ℕ, ◌≡◌, refl, List, [], ◌∷◌}
use Rattle.std.proofs.Common.{sym, ap, ◌∙◌, arith}
use Rattle.std.proofs.Math.Option.{none, some}
use Rattle.text.specs.Rest.{lost, left}
use Rattle.grammar.specs.Data.Book.{Book}
use Rattle.grammar.specs.Format.Print.{print_book}
use Rattle.grammar.specs.Format.Ordered.{Spelled, SpelledText}
use Rattle.grammar.specs.Format.Reader.{Parsed, parsed, result, remaining}
use Rattle.grammar.specs.Format.Parse.{book_text, ended, parse_book}
use Rattle.grammar.specs.Format.ParseReads.{book-reads}
use Rattle.grammar.specs.Format.ParseWas.{book-was}

pub parse-print : (b : Book) → Spelled b → parse_book (print_book b) ≡ some b
unfolding parse_book ended
parse-print b h = rw (book-reads b h)

none≢some : {b : Book} → none ≡ some b → ⊥
none≢some e = let z : ◌≡◌ {A = ℕ} 0 1 = cc in omega arith

ended-got : {C : Type 0} {b : Book} (p : Parsed Book) → ended p ≡ some b → (result p ≡ b → remaining p ≡ left [] → C) → C
unfolding ended result remaining
ended-got (parsed c lost) e k = absurd (none≢some e)
ended-got (parsed c (left [])) e k = k (cc) refl
ended-got (parsed c (left (x ∷ xs))) e k = absurd (none≢some e)

pub print-parse : (text : List ℕ) (b : Book) → parse_book text ≡ some b → (text ≡ print_book b) × Spelled b
unfolding parse_book
print-parse text b e = ended-got (book_text (left text)) e λ same none_left. rw same at (book-was text none_left)

-- a text is the text of one book alone
pub print_book-injective : (a b : Book) → Spelled a → Spelled b → print_book a ≡ print_book b → a ≡ b
print_book-injective a b h k e = some_is (sym (parse-print a h) ∙ (ap parse_book e ∙ parse-print b k))
  where
    some_is : {a b : Book} → some a ≡ some b → a ≡ b
    some_is e = cc

-- condition 2 is decided: a text is spelled right where it is read, and not where it is not
pub parsed-spelled : (text : List ℕ) (b : Book) → parse_book text ≡ some b → SpelledText text
parsed-spelled text b e =
    let w = print-parse text b e in
    record { book = b; spelled = w.1; same_text = w.0 }

pub spelled-parsed : (text : List ℕ) (s : SpelledText text) → parse_book text ≡ some s.book
spelled-parsed text s = rw s.same_text (parse-print s.book s.spelled)

pub none-misspelt : (text : List ℕ) → parse_book text ≡ none → SpelledText text → ⊥
none-misspelt text e s = none≢some (sym e ∙ spelled-parsed text s)
