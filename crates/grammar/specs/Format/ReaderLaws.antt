-- Laws of the readers: what a reader that went on was given, how much it leaves, and that what was printed is read.
-- Assumes nothing.
use Rattle.std.specs.Prelude.{ℕ, ◌≤◌, ◌<◌, ◌≡◌, Bool, true, List, ◌∷◌, eqb}
use Rattle.std.proofs.Math.Path.{ap}
use Rattle.std.proofs.Common.{◌∙◌, arith, eqb-true}
use Rattle.text.specs.Class.{digit, open-bracket, close-bracket, space, line-feed, class_of}
use Rattle.text.proofs.ClassLaws.{byte_of}
use Rattle.text.specs.Rest.{Rest, left, found, must, mark_in, mark, size}
use Rattle.text.proofs.RestLaws.{must-got, found-got, found_left, size-must, size-mark, found-mark}
use Rattle.text.proofs.RestLaws.{mark-got as mark-text}
use Rattle.text.specs.Numeral.{decimal, letters, got, digit_of, digits, numeral, number_of, rest_of, read, value, past, spelled, written, write, keyword}
use Rattle.text.specs.Positional.{no_digit}
use Rattle.text.proofs.Positional.{digits-stop}
use Rattle.text.proofs.NumeralLaws.{number-written, written-head, size-past, size-keyword}
use Rattle.text.proofs.NumeralLaws.{number-got as number-text, keyword-got as keyword-text}
use Rattle.grammar.specs.Format.Printer.{bytes, literal}
use Rattle.grammar.specs.Format.Ordered.{Fits}
use Rattle.grammar.specs.Format.Reader.{result, remaining, opening, closing, naming}

-- From a reader that left r to what it was given

module _ {C : Type 0} {r : List ℕ} where
  pub mark-got : (c : ℕ) (o : Rest) → 3 ≤ c → mark c o ≡ left r → (o ≡ left (byte_of c ∷ r) → C) → C
  mark-got c o h e k = mark-text c o h e λ bs p q. k (p ∙ ap left q)

  pub space-got : (o : Rest) → mark space o ≡ left r → (o ≡ left (32 ∷ r) → C) → C
  unfolding byte_of
  space-got o e k = mark-got space o (omega arith) e k

  pub close-got : (o : Rest) → mark close-bracket o ≡ left r → (o ≡ left (41 ∷ r) → C) → C
  unfolding byte_of
  close-got o e k = mark-got close-bracket o (omega arith) e k

  pub open-got : (o : Rest) → mark open-bracket o ≡ left r → (o ≡ left (40 ∷ r) → C) → C
  unfolding byte_of
  open-got o e k = mark-got open-bracket o (omega arith) e k

  pub number-got : (o : Rest) → past decimal o ≡ left r → (o ≡ left (write decimal (value decimal o) r) → Fits (value decimal o) → C) → C
  number-got o e k = number-text o e λ bs p q h. k (p ∙ ap left q) (omega arith)

  -- the number that is due
  pub due-got : (K : ℕ) (o : Rest) → must (eqb (value decimal o) K) (past decimal o) ≡ left r → (o ≡ left (write decimal K r) → Fits K → C) → C
  due-got K o e k =
      must-got (eqb (value decimal o) K) (past decimal o) e λ t p. number-text o p λ bs q u h.
      let v : value decimal o ≡ K = eqb-true (value decimal o) K t in
      k (q ∙ (ap left u ∙ rw v)) (omega arith)

  pub keyword-got : (w : ℕ) (o : Rest) → keyword w o ≡ left r → (o ≡ left (write letters w r) → C) → C
  keyword-got w o e k = keyword-text w o e λ bs p q. k (p ∙ ap left q)

  pub closing-got : (o : Rest) → closing o ≡ left r → (o ≡ left (41 ∷ 10 ∷ r) → C) → C
  unfolding closing byte_of
  closing-got o e k =
      mark-text line-feed (mark close-bracket o) (omega arith) e λ bs p q. mark-text close-bracket o (omega arith) (p ∙ ap left q) λ cs u v. k (u ∙ ap left v)

pub naming-got : {C : Type 0} {r : List ℕ} (w : ℕ) (o : Rest) → naming w o ≡ left r → (o ≡ left (32 ∷ write letters w r) → C) → C
unfolding naming
naming-got w o e k = keyword-got w (mark space o) e λ p. space-got o p k

pub opening-got : {C : Type 0} {r : List ℕ} (w : ℕ) (o : Rest) → opening w o ≡ left r → (o ≡ left (40 ∷ write letters w (32 ∷ r)) → C) → C
unfolding opening
opening-got w o e k = space-got (keyword w (mark open-bracket o)) e λ p. keyword-got w (mark open-bracket o) p λ q. open-got o q k

-- How much is left

module _ (m : ℕ) (o : Rest) (h : size o ≤ m) where
  pub most-must : (t : Bool) → size (must t o) ≤ m
  most-must t = omega (arith, size-must t o)

  pub most-mark : (c : ℕ) → size (mark c o) ≤ m
  most-mark c = omega (arith, size-mark c o)

  pub most-number : size (past decimal o) ≤ m
  most-number = omega (arith, size-past decimal o)

  pub most-word : size (past letters o) ≤ m
  most-word = omega (arith, size-past letters o)

  pub most-keyword : (w : ℕ) → size (keyword w o) ≤ m
  most-keyword w = omega (arith, size-keyword w o)

  pub most-closing : size (closing o) ≤ m
  unfolding closing
  most-closing = omega (arith, size-mark close-bracket o, size-mark line-feed (mark close-bracket o))

  pub most-naming : (w : ℕ) → size (naming w o) ≤ m
  unfolding naming
  most-naming w = omega (arith, size-mark space o, size-keyword w (mark space o))

pub most-all : (o : Rest) → size o ≤ size o
most-all o = omega arith

-- a chain of readers leaves no more than it was given
pub ruleset shrinking = (most-must, most-mark, most-number, most-word, most-keyword, most-closing, most-naming, most-all)

size-head : (c w : ℕ) (o : Rest) → found (mark c (keyword w (mark open-bracket o))) ≡ true → size (mark c (keyword w (mark open-bracket o))) < size o
size-head c w o h = omega (arith, found-mark c (keyword w (mark open-bracket o)) h, size-keyword w (mark open-bracket o), size-mark open-bracket o)

pub opening-less : (w : ℕ) (o : Rest) → found (opening w o) ≡ true → size (opening w o) < size o
unfolding opening
opening-less w o h = size-head space w o h

pub naming-less : (w : ℕ) (o : Rest) → found (naming w o) ≡ true → size (naming w o) < size o
unfolding naming size
naming-less w o h =
    found-got (naming w o) h λ r e. naming-got w o e λ p. keyword-got w (mark space o) e λ q.
    omega (arith, size-keyword w (mark space o), found-mark space o (found_left (mark space o) q))

-- What was printed is read

no-letter : (b : ℕ) (bs : List ℕ) → class_of b ≡ digit → no_digit letters (b ∷ bs) ≡ true
unfolding no_digit digit_of
no-letter b bs h = rw h

-- a number ends a word
pub word-ends : (v n : ℕ) (r : List ℕ) → digits letters v (write decimal n r) ≡ got v (write decimal n r)
word-ends v n r = written-head n r λ b bs e h. rw e (digits-stop letters v (b ∷ bs) (no-letter b bs h))

pub number-reads : (n : ℕ) (r : List ℕ) → Fits n → no_digit decimal r ≡ true → numeral decimal (write decimal n r) ≡ got n r
number-reads n r h k = number-written n r (omega arith) k

-- opens all that reading computes with, and nothing of writing
unfoldable pub reading : Unit {0}
unfolding class_of found must mark_in mark digit_of digits numeral number_of rest_of read value past spelled keyword no_digit bytes literal result remaining opening
    closing naming
reading = tt

-- opens all that writing a word computes with
unfoldable pub spelling : Unit {0}
unfolding spelled written write bytes literal
spelling = tt
