-- Each section of a book: reading it is the inverse of printing it, where no line of its kind follows.
-- Assumes nothing.
use Rattle.std.specs.Prelude.{ℕ, suc, ◌≡◌, Bool}
use Rattle.std.proofs.Math.Path.{refl}
use Rattle.std.proofs.Common.{sym, ap, ◌∙◌, eqb-true, eq-eqb}
use Rattle.std.proofs.Math.Bool.{true, false}
use Rattle.std.proofs.lemmas.Bool.{false≢true}
use mathlib.Core.List.{List, [], ◌∷◌}
use Rattle.std.proofs.Math.Dec.{eqb}
use Rattle.text.specs.Class.{open-bracket}
use Rattle.text.specs.Rest.{Rest, left, found, must, mark}
use Rattle.text.specs.Numeral.{letters, value, keyword}
use Rattle.grammar.specs.Format.Printer.{Printer, each, numbered}
use Rattle.grammar.specs.Format.Ordered.{Ascending, Every, Numbered}
use Rattle.grammar.specs.Format.Reader.{parsed, result, remaining, Reader, opening, section}
use Rattle.grammar.specs.Format.OrderLaws.{Numbering, Following, numbers-along, along-numbers, ascends-along, along-ascends, along-fits}
use Rattle.grammar.specs.Format.SectionLaws.{Inverse, Prints, section-reads, section-was}
use Rattle.grammar.specs.Format.LineLaws.{Anything, each-prints}

-- What follows a section: a text whose first line has one of the given words

unfoldable pub line_word : List ℕ → ℕ
line_word bs = value letters (mark open-bracket (left bs))

unfoldable pub listed : ℕ → List ℕ → Bool
listed w [] = false
listed w (v ∷ vs) = elim (eqb w v) [ true ↦ true | false ↦ listed w vs ]

abbrev pub Starts : List ℕ → List ℕ → Type 0
Starts words bs = listed (line_word bs) words ≡ true

-- a section whose word is not among them ends there
pub other_word : (w : ℕ) (words bs : List ℕ) → listed w words ≡ false → Starts words bs → found (opening w (left bs)) ≡ false
unfolding opening keyword line_word
other_word w words bs h k = go (eqb (line_word bs) w) refl
  where
    go : (t : Bool) → eqb (line_word bs) w ≡ t → found (opening w (left bs)) ≡ false
    go true e = absurd (false≢true (sym h ∙ (ap (λ v. listed v words) (sym (eqb-true (line_word bs) w e)) ∙ k)))
    go false e = unfold must mark found in rw e

-- a section adds its word
module _ {A S : Type 0} (next : S → A → S) (print : S → A → Printer) (prints : S → List A → Printer) (L : Prints next print prints)
    (w : ℕ) (h : (s : S) (x : A) (r : List ℕ) → line_word (print s x r) ≡ w) where
  section-starts : (words : List ℕ) (s : S) (xs : List A) (r : List ℕ) → Starts words r → Starts (w ∷ words) (prints s xs r)
  unfolding listed
  section-starts words s [] r k = rw (L.prints-[] s r) (go (eqb (line_word r) w) refl)
    where
      go : (t : Bool) → eqb (line_word r) w ≡ t → listed (line_word r) (w ∷ words) ≡ true
      go true e = rw (e, listed)
      go false e = rw (e, listed) k
  section-starts words s (x ∷ xs) r k = rw (L.prints-∷ s x xs r, h s x (prints (next s x) xs r)) (rw (eq-eqb w w refl, listed))

numbered-prints : {A : Type 0} (print : ℕ → A → Printer) → Prints (λ K x. suc K) print (numbered print)
unfolding numbered
numbered-prints print = record { prints-[] = λ K r. refl; prints-∷ = λ K x xs r. refl }

module _ {A : Type 0} (w : ℕ) (words : List ℕ) (xs : List A) (r : List ℕ) (k : Starts words r) where
  pub numbered-starts : (print : ℕ → A → Printer) → ((K : ℕ) (x : A) (r : List ℕ) → line_word (print K x r) ≡ w) → Starts (w ∷ words) (numbered print 0 xs r)
  numbered-starts print h = section-starts (λ K x. suc K) print (numbered print) (numbered-prints print) w h words 0 xs r k

  pub each-starts : (print : A → Printer) → ((x : A) (r : List ℕ) → line_word (print x r) ≡ w) → Starts (w ∷ words) (each print xs r)
  each-starts print h =
      section-starts (λ (s : Unit {0}) x. s) (λ s. print) (λ s. each print) (each-prints (λ s x. s) print) w (λ s. h) words tt xs r k

-- Sections of numbered lines

module _ {A : Type 0} {P : A → Type 0} (w : ℕ) (one : ℕ → Reader A) (print : ℕ → A → Printer) (I : Inverse (opening w) one print (Numbering P) Anything) where
  abbrev pub numbered_lines : Reader (List A)
  numbered_lines = section (opening w) one (λ K x. suc K) 0

  pub numbered-reads : (words : List ℕ) (xs : List A) (r : List ℕ) → Numbered P xs → listed w words ≡ false → Starts words r
      → numbered_lines (left (numbered print 0 xs r)) ≡ parsed xs (left r)
  numbered-reads words xs r h d k =
      section-reads (opening w) one (λ K x. suc K) print (Numbering P) Anything (numbered print) I (numbered-prints print)
      0 xs r (numbers-along h) tt (other_word w words r d k)

  pub numbered-was : {C : Type 0} {r : List ℕ} (o : Rest) → remaining (numbered_lines o) ≡ left r
      → (o ≡ left (numbered print 0 (result (numbered_lines o)) r) → Numbered P (result (numbered_lines o)) → C) → C
  numbered-was o e k =
      section-was (opening w) one (λ K x. suc K) print (Numbering P) Anything (numbered print) I (numbered-prints print) 0 o e λ e₁ h. k e₁ (along-numbers h)

-- Sections of lines in order

module _ {A : Type 0} {P : A → Type 0} (w : ℕ) (one : List ℕ → Reader A) (key : A → List ℕ) (print : A → Printer)
    (I : Inverse (opening w) one (λ last. print) (Following key P) Anything) where
  abbrev pub ordered_lines : Reader (List A)
  ordered_lines = section (opening w) one (λ last. key) []

  pub ordered-reads : (words : List ℕ) (xs : List A) (r : List ℕ) → Ascending key xs → Every P xs → listed w words ≡ false → Starts words r
      → ordered_lines (left (each print xs r)) ≡ parsed xs (left r)
  ordered-reads words xs r a h d k =
      section-reads (opening w) one (λ last. key) (λ last. print) (Following key P) Anything (λ last. each print) I (each-prints (λ last. key) print)
      [] xs r (ascends-along a h) tt (other_word w words r d k)

  pub ordered-was : {C : Type 0} {r : List ℕ} (o : Rest) → remaining (ordered_lines o) ≡ left r
      → (o ≡ left (each print (result (ordered_lines o)) r) → Ascending key (result (ordered_lines o)) → Every P (result (ordered_lines o)) → C) → C
  ordered-was o e k =
      section-was (opening w) one (λ last. key) (λ last. print) (Following key P) Anything (λ last. each print) I (each-prints (λ last. key) print)
      [] o e λ e₁ h. k e₁ (along-ascends h) (along-fits h)
