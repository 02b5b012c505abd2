-- Laws on what is left of a text: at a position, after a byte of a class, after a test; and how much is left.
-- Assumes nothing.
use Rattle.std.specs.Prelude.{ℕ, ◌+◌, ◌≤◌, ◌<◌, ◌≡◌, Bool, List, [], ◌∷◌, leb, eqb, length, get_or, drop}
use Rattle.std.proofs.Math.Path.{refl}
use Rattle.std.proofs.Common.{ap, ◌∙◌, arith, add-one, length-drop, drop_of_length-le, drop-cons, le-leb, eqb-true, eq-eqb, ne_eqb}
use Rattle.std.proofs.Math.Bool.{true, false}
use Rattle.std.proofs.lemmas.Bool.{false≢true, lt-leb}
use Rattle.text.specs.Class.{class_of}
use Rattle.text.proofs.ClassLaws.{byte_of, marked}
use Rattle.text.specs.Rest.{Rest, lost, left, rest, found, must, mark_in, mark, size}

pub lost≢left : {r : List ℕ} → lost ≡ left r → ⊥
lost≢left e = let z : ◌≡◌ {A = ℕ} 0 1 = cc in omega arith

pub left_is : {a b : List ℕ} → left a ≡ left b → a ≡ b
left_is e = cc

-- What stands at a position

pub rest_in : (text : List ℕ) (at : ℕ) → at ≤ length text → rest text at ≡ left (drop at text)
unfolding rest
rest_in text at h = rw (le-leb at (length text), rest)

pub rest_out : (text : List ℕ) (at : ℕ) → length text < at → rest text at ≡ lost
unfolding rest
rest_out text at h = rw (lt-leb at (length text), rest)

-- the rest at i is the element there and the rest at i + 1
pub drop_more : (l : List ℕ) (i : ℕ) → i < length l → drop i l ≡ get_or l i 0 ∷ drop (i + 1) l
drop_more l i h = rw (add-one) (drop-cons l i 0 h)

pub rest_at : (text : List ℕ) (at : ℕ) → at < length text → rest text at ≡ left (get_or text at 0 ∷ drop (at + 1) text)
rest_at text at h = rest_in text at (omega arith) ∙ rw (drop_more text at h)

-- at the end or past it
pub rest_end : {C : Type 0} (text : List ℕ) (at : ℕ) → length text ≤ at → (rest text at ≡ lost → C) → (rest text at ≡ left [] → C) → C
unfolding rest
rest_end {C} text at h out end = go (leb at (length text)) refl
  where
    go : (t : Bool) → leb at (length text) ≡ t → C
    go true q = end (rw (q, rest, drop_of_length-le text h))
    go false q = out (rw (q, rest))

pub found_in : (text : List ℕ) (at : ℕ) → at ≤ length text → found (rest text at) ≡ true
unfolding found
found_in text at h = ap found (rest_in text at h)

pub found-out : (text : List ℕ) (at : ℕ) → length text < at → found (rest text at) ≡ false
unfolding found
found-out text at h = ap found (rest_out text at h)

pub found_left : {bs : List ℕ} (o : Rest) → o ≡ left bs → found o ≡ true
unfolding found
found_left o e = ap found e

-- From a reader that left something to what it was given

module _ {C : Type 0} where
  pub found-got : (o : Rest) → found o ≡ true → ((bs : List ℕ) → o ≡ left bs → C) → C
  unfolding found
  found-got lost h k = absurd (false≢true h)
  found-got (left bs) h k = k bs refl

  pub must-got : {r : List ℕ} (t : Bool) (o : Rest) → must t o ≡ left r → (t ≡ true → o ≡ left r → C) → C
  unfolding must
  must-got true o e k = k refl e
  must-got false o e k = absurd (lost≢left e)

  pub class-got : {r : List ℕ} (c : ℕ) (o : Rest) → mark c o ≡ left r → ((b : ℕ) → o ≡ left (b ∷ r) → class_of b ≡ c → C) → C
  unfolding mark mark_in must
  class-got c lost e k = absurd (lost≢left e)
  class-got c (left []) e k = absurd (lost≢left e)
  class-got {r} c (left (b ∷ bs)) e k = must-got (eqb (class_of b) c) (left bs) e λ t p. k b (rw (left_is p)) (eqb-true (class_of b) c t)

  pub mark-got : {r : List ℕ} (c : ℕ) (o : Rest) → 3 ≤ c → mark c o ≡ left r → ((bs : List ℕ) → o ≡ left bs → bs ≡ byte_of c ∷ r → C) → C
  mark-got {r} c o h e k = class-got c o e λ b p q. k (b ∷ r) p (rw (marked b c h q))

-- Forwards

pub mark-class : (b c : ℕ) (r : List ℕ) → class_of b ≡ c → mark c (left (b ∷ r)) ≡ left r
unfolding mark mark_in must
mark-class b c r e = rw (eq-eqb (class_of b) c e)

pub mark-other : (b c : ℕ) (r : List ℕ) → (class_of b ≡ c → ⊥) → mark c (left (b ∷ r)) ≡ lost
unfolding mark mark_in must
mark-other b c r e = rw (ne_eqb (class_of b) c e)

pub must-true : (t : Bool) (o : Rest) → t ≡ true → must t o ≡ o
unfolding must
must-true t o e = rw e

pub must-false : (t : Bool) (o : Rest) → t ≡ false → must t o ≡ lost
unfolding must
must-false t o e = rw e

-- How much is left: a reader leaves no more than it was given, and less where it found its byte

pub size-rest : (text : List ℕ) (at : ℕ) → size (rest text at) ≤ length text + 1
unfolding size rest
size-rest text at = go (leb at (length text)) refl
  where
    go : (t : Bool) → leb at (length text) ≡ t → size (rest text at) ≤ length text + 1
    go true q = rw (q, rest) (omega (arith, length-drop at text))
    go false q = rw (q, rest) (omega arith)

pub size-must : (t : Bool) (o : Rest) → size (must t o) ≤ size o
unfolding size must
size-must true o = omega arith
size-must false o = omega arith

mark-less : (c : ℕ) (bs : List ℕ) → size (mark_in c bs) ≤ length bs
unfolding size mark_in
mark-less c [] = omega arith
mark-less c (b ∷ bs) = size-must (eqb (class_of b) c) (left bs)

pub size-mark : (c : ℕ) (o : Rest) → size (mark c o) ≤ size o
unfolding size mark
size-mark c lost = omega arith
size-mark c (left bs) = omega (arith, mark-less c bs)

pub less-mark : (c : ℕ) (o : Rest) → found o ≡ true → size (mark c o) < size o
unfolding size mark
less-mark c o h = found-got o h λ bs e. rw e (omega (arith, mark-less c bs))

pub found-mark : (c : ℕ) (o : Rest) → found (mark c o) ≡ true → size (mark c o) < size o
unfolding size
found-mark c o h = found-got (mark c o) h λ r e. class-got c o e λ b p q. rw (e, p) (omega arith)
