-- What follows of a text that was read: the book, or that there is none; and that numbers and arrays are the book's, as conditions 3 to 6 ask it.
-- Assumes nothing.
use Rattle.std.specs.Prelude.{◌≡◌, List, ℕ, Option, None, Some}
use Rattle.std.proofs.Math.Path.{refl}
use Rattle.std.proofs.Common.{sym, ◌∙◌}
use Rattle.std.proofs.Math.Option.{Option as Sought, none, some}
use Rattle.grammar.specs.Data.Book.{Book as Lines}
use Rattle.grammar.specs.Format.Parse.{parse_book}
use Rattle.book.specs.declared.Book.{Book}
use Rattle.book.specs.declared.Room.{Room}
use Rattle.book.specs.Counts.{counts_of}
use Rattle.book.specs.Held.{Held, kept}
use Rattle.book.specs.HeldLaws.{held}
use Rattle.book.specs.Spelling.{Arrays, Roomy, Spelling, Complete}

module _ {text : List ℕ} {before stored : Arrays} {read : Option Book} (room : Room) (s : Spelling room text before read stored) where
  -- a text of which a book was read has one, and its numbers were read
  pub spelled-got : {C : Type 0} (numbers : Book) → read ≡ Some numbers → ((b : Lines) → parse_book text ≡ some b → numbers ≡ counts_of b → C) → C
  spelled-got {C} numbers h k = go (parse_book text) refl
    where
      go : (o : Sought Lines) → parse_book text ≡ o → C
      go none e = absurd (let z : None ≡ Some numbers = sym (s.none_is e) ∙ h in cc)
      go (some b) e = k b e (let z : Some numbers ≡ Some (counts_of b) = sym h ∙ s.some_is b e in cc)

  -- and one of which none was read has none
  pub misspelt-none : read ≡ None → parse_book text ≡ none
  misspelt-none h = go (parse_book text) refl
    where
      go : (o : Sought Lines) → parse_book text ≡ o → parse_book text ≡ none
      go none e = e
      go (some b) e = absurd (let z : Some (counts_of b) ≡ None = sym (s.some_is b e) ∙ h in cc)

  module _ (b : Lines) (e : parse_book text ≡ some b) where
    module _ (r : Roomy room before) (complete : Complete room (counts_of b)) where
      pub arrays-held : Held (kept b) stored.inherited stored.synthesized stored.rules stored.definitions stored.kernels stored.goes
      arrays-held = rw (s.lines_are b e) (held room b complete before r)
