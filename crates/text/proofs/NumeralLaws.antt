-- Laws of the readers of numbers and words: what they read was written, what is written they read, and how much they leave.
-- Assumes nothing.
use Prim.Native.Nat.{ℕ, suc, ◌+◌, ◌*◌, ◌≤◌, ◌<◌}
use Rattle.std.specs.Prelude.{◌≡◌, Bool, length}
use Rattle.std.proofs.Math.Path.{refl, sym, ap}
use Rattle.std.proofs.Common.{◌∙◌, eqb-true, eq-eqb, ne_eqb}
use Rattle.std.proofs.Math.Bool.{true, false}
use mathlib.Core.List.{List, [], ◌∷◌}
use native.Mathlib.Omega.{arith}
use Rattle.std.proofs.Math.Dec.{ltb, eqb}
use Rattle.text.specs.Class.{class_of, digit}
use Rattle.text.proofs.ClassLaws.{range-digit}
use Rattle.text.specs.Rest.{Rest, lost, left, found, mark, size}
use Rattle.text.proofs.RestLaws.{lost≢left, left_is, found-got, must-got, mark-other, size-must}
use Rattle.text.specs.Numeral.{System, decimal, letters, Read, bad, got, digit_of, digits, numeral, write, number_of, rest_of, read, value, past, keyword}
use Rattle.text.specs.Positional.{Positional, no_digit}
use Rattle.text.proofs.Positional.{decimal-positional, letters-positional, written-number, read-written, written-begins}

-- From a reader that left something to what it was given

module _ {C : Type 0} {r : List ℕ} where
  -- a number that was passed was written
  pub past-got : (S : System) (P : Positional S) (o : Rest) → past S o ≡ left r
      → ((bs : List ℕ) → o ≡ left bs → bs ≡ write S (value S o) r → value S o ≤ S.limit → C) → C
  unfolding past value read rest_of number_of
  past-got S P lost e k = absurd (lost≢left e)
  past-got S P (left bs) e k = go (numeral S bs) refl
    where
      go : (m : Read) → numeral S bs ≡ m → C
      go bad q = absurd (lost≢left (sym (ap rest_of q) ∙ e))
      go (got n r₁) q =
          let x : left r₁ ≡ left r = sym (ap rest_of q) ∙ e in
          let y : r₁ ≡ r = left_is x in
          let z = written-number S P bs n r (q ∙ ap (got n) y) in
          let v : number_of (numeral S bs) ≡ n = ap number_of q in
          k bs refl (z.text ∙ ap (λ (i : ℕ). write S i r) (sym v)) (rw v z.bound)

  pub number-got : (o : Rest) → past decimal o ≡ left r
      → ((bs : List ℕ) → o ≡ left bs → bs ≡ write decimal (value decimal o) r → value decimal o ≤ 4294967295 → C) → C
  number-got o e k = past-got decimal decimal-positional o e k

  -- and so was a word
  pub keyword-got : (w : ℕ) (o : Rest) → keyword w o ≡ left r → ((bs : List ℕ) → o ≡ left bs → bs ≡ write letters w r → C) → C
  unfolding keyword
  keyword-got w o e k =
      must-got (eqb (value letters o) w) (past letters o) e λ t p. past-got letters letters-positional o p λ bs q v l.
      k bs q (v ∙ ap (λ (i : ℕ). write letters i r) (eqb-true (value letters o) w t))

-- What is written is read

every-digit : (d : ℕ) → d < 10 → digit_of decimal (48 + d) ≡ d
unfolding digit_of
every-digit d h = rw (eq-eqb (class_of (48 + d)) digit (range-digit (48 + d) (omega arith) (omega arith))) (omega arith)

pub number-written : (n : ℕ) (r : List ℕ) → n ≤ 4294967295 → no_digit decimal r ≡ true → numeral decimal (write decimal n r) ≡ got n r
number-written n r l h = read-written decimal decimal-positional every-digit n r l h

pub value-number : (n : ℕ) (r : List ℕ) → n ≤ 4294967295 → no_digit decimal r ≡ true → value decimal (left (write decimal n r)) ≡ n
unfolding value read number_of
value-number n r l h = ap number_of (number-written n r l h)

pub past-number : (n : ℕ) (r : List ℕ) → n ≤ 4294967295 → no_digit decimal r ≡ true → past decimal (left (write decimal n r)) ≡ left r
unfolding past read rest_of
past-number n r l h = ap rest_of (number-written n r l h)

-- how a written number begins, to tell it from a bracket, a space or a word
pub written-head : {C : Type 0} (n : ℕ) (r : List ℕ) → ((b : ℕ) (bs : List ℕ) → write decimal n r ≡ b ∷ bs → class_of b ≡ digit → C) → C
written-head n r k =
    written-begins decimal decimal-positional every-digit n r λ d bs e h p. k (48 + d) bs e (range-digit (48 + d) (omega arith) (omega arith))

pub mark-number : (c n : ℕ) (r : List ℕ) → (digit ≡ c → ⊥) → mark c (left (write decimal n r)) ≡ lost
mark-number c n r h = written-head n r λ b bs e p. ap (λ x. mark c (left x)) e ∙ mark-other b c bs (λ q. h (sym p ∙ q))

-- a byte of another class ends a number
pub no-digit-other : (b : ℕ) (r : List ℕ) → (class_of b ≡ digit → ⊥) → no_digit decimal (b ∷ r) ≡ true
unfolding no_digit digit_of
no-digit-other b r h = rw (ne_eqb (class_of b) digit h)

-- How much is left: less, wherever a number or a word was looked for in something

module _ (S : System) where
  size-digits : (n : ℕ) (bs : List ℕ) → size (rest_of (digits S n bs)) ≤ suc (length bs)
  unfolding size rest_of digits
  size-digits n [] = omega arith
  size-digits n (b ∷ bs) =
      go (eqb (digit_of S b) S.base) (ltb S.limit (n * S.base + digit_of S b)) refl refl (size-digits (n * S.base + digit_of S b) bs)
    where
      go : (s t : Bool) → eqb (digit_of S b) S.base ≡ s → ltb S.limit (n * S.base + digit_of S b) ≡ t
          → size (rest_of (digits S (n * S.base + digit_of S b) bs)) ≤ suc (length bs) → size (rest_of (digits S n (b ∷ bs))) ≤ suc (suc (length bs))
      go true t p q ih = rw (p, digits) (omega arith)
      go false true p q ih = rw (p, digits) (rw q (omega arith))
      go false false p q ih = rw (p, digits) (rw q (omega arith))

  less-digits : (n b : ℕ) (bs : List ℕ) → eqb (digit_of S b) S.base ≡ false → size (rest_of (digits S n (b ∷ bs))) ≤ suc (length bs)
  unfolding size rest_of digits
  less-digits n b bs p = go (ltb S.limit (n * S.base + digit_of S b)) refl
    where
      go : (t : Bool) → ltb S.limit (n * S.base + digit_of S b) ≡ t → size (rest_of (digits S n (b ∷ bs))) ≤ suc (length bs)
      go true q = rw (p, digits) (rw q (omega arith))
      go false q = rw (p, digits) (rw q (size-digits (n * S.base + digit_of S b) bs))

  less-numeral : (bs : List ℕ) → size (rest_of (numeral S bs)) ≤ length bs
  unfolding size rest_of numeral
  less-numeral [] = omega arith
  less-numeral (b ∷ bs) = go (eqb (digit_of S b) 0) (eqb (digit_of S b) S.base) refl refl
    where
      go : (s t : Bool) → eqb (digit_of S b) 0 ≡ s → eqb (digit_of S b) S.base ≡ t → size (rest_of (numeral S (b ∷ bs))) ≤ suc (length bs)
      go true t p q = rw (p, numeral) (omega arith)
      go false true p q = rw (p, numeral) (rw q (omega arith))
      go false false p q = rw (p, numeral) (rw q (less-digits 0 b bs q))

  pub size-past : (o : Rest) → size (past S o) ≤ size o
  unfolding size past read rest_of
  size-past lost = omega arith
  size-past (left bs) = omega (arith, less-numeral bs)

  pub less-past : (o : Rest) → found o ≡ true → size (past S o) < size o
  unfolding size past read
  less-past o h = found-got o h λ bs e. rw e (omega (arith, less-numeral bs))

pub size-keyword : (w : ℕ) (o : Rest) → size (keyword w o) ≤ size o
unfolding keyword
size-keyword w o = omega (arith, size-must (eqb (value letters o) w) (past letters o), size-past letters o)
