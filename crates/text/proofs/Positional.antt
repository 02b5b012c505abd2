-- Writing and reading numbers are inverse, over any system of digits: decimal numbers and words of small letters alike.
-- Assumes nothing.
use Prim.Native.Nat.{ℕ, zero, suc, ◌+◌, ◌*◌, ◌-◌, ◌/◌, ◌%◌, ◌≤◌, ◌<◌}
use Rattle.std.specs.Prelude.{◌≡◌, Bool}
use Rattle.std.proofs.Math.Path.{refl, sym, ap}
use Rattle.std.proofs.Common.{◌∙◌, div-add-mod', mod-lt, mod-eq_of_lt, zero-mul}
use Rattle.std.proofs.Math.Bool.{true, false}
use mathlib.Core.List.{List, [], ◌∷◌, ◌++◌}
use native.Mathlib.Omega.{arith}
use Rattle.std.proofs.Math.Nat.{div-lt_self, div-eq-sub-div, div-eq_of_lt, mul-add-div_right, mul-add-mod_self_right, mul-le-mul_right, one-mul}
use Rattle.std.proofs.Math.Dec.{ltb, eqb}
use borrow.Author.Tests.{ltb-true, ltb-false, eqb-true, eqb-false, lt-ltb, le-ltb, eq-eqb, ne_eqb}
use Rattle.text.specs.Class.{class_of}
use Rattle.text.proofs.ClassLaws.{digit-range, letter-range}
use Rattle.text.specs.Numeral.{System, decimal, letters, bad, got, digit_of, digits, numeral, written, write}
use Rattle.text.specs.Positional.{Positional, no_digit}

pub bad≢got : {n : ℕ} {r : List ℕ} → bad ≡ got n r → ⊥
bad≢got e = let z : ◌≡◌ {A = ℕ} 0 1 = cc in omega arith

pub decimal-positional : Positional decimal
decimal-positional =
    record { base_is = omega arith; from_zero = λ b e. (digit-range b e).0; to_base = λ b e. omega (arith, (digit-range b e).1) }

pub letters-positional : Positional letters
letters-positional =
    record {
      base_is = omega arith;
      from_zero = λ b e. omega (arith, (letter-range b e).0);
      to_base = λ b e. omega (arith, (letter-range b e).1);
    }

-- What was read, in front of a rest r
pub record Was (S : System) (n : ℕ) (bs r : List ℕ) : Type 0 where
  pub text : bs ≡ write S n r
  pub bound : n ≤ S.limit

pub by_less : {C : Type 0} (a b : ℕ) → (a < b → C) → (b ≤ a → C) → C
by_less {C} a b f g = go (ltb a b) refl
  where
    go : (t : Bool) → ltb a b ≡ t → C
    go true e = f (ltb-true a b e)
    go false e = g (ltb-false a b e)

module _ (S : System) where
  -- The clauses, as laws

  pub digit_is : (b : ℕ) → class_of b ≡ S.class → digit_of S b ≡ b - S.zero_byte
  unfolding digit_of
  digit_is b h = rw (eq-eqb (class_of b) S.class h)

  pub digit-none : (b : ℕ) → (class_of b ≡ S.class → ⊥) → digit_of S b ≡ S.base
  unfolding digit_of
  digit-none b h = rw (ne_eqb (class_of b) S.class h)

  pub written_small : (f n : ℕ) (r : List ℕ) → n < S.base → written S (suc f) n r ≡ (S.zero_byte + n) ∷ r
  unfolding written
  written_small f n r h = rw (lt-ltb n S.base, written)

  pub written-large : (f n : ℕ) (r : List ℕ) → S.base ≤ n
      → written S (suc f) n r ≡ written S f (n / S.base) ((S.zero_byte + n % S.base) ∷ r)
  unfolding written
  written-large f n r h = rw (le-ltb n S.base, written)

  -- what is written stands in front of whatever comes after it
  written-front : (f n : ℕ) (r s : List ℕ) → written S f n (r ++ s) ≡ written S f n r ++ s
  unfolding written
  written-front zero n r s = refl
  written-front (suc f) n r s =
      by_less n S.base
      (λ h. rw (written_small f n (r ++ s) h, written_small f n r h))
      (λ h. rw (written-large f n (r ++ s) h, written-large f n r h) (written-front f (n / S.base) ((S.zero_byte + n % S.base) ∷ r) s))

  pub write-front : (n : ℕ) (r s : List ℕ) → write S n (r ++ s) ≡ write S n r ++ s
  unfolding write
  write-front n r s = written-front (suc n) n r s

  pub digits-stop : (n : ℕ) (r : List ℕ) → no_digit S r ≡ true → digits S n r ≡ got n r
  unfolding digits no_digit
  digits-stop n [] h = refl
  digits-stop n (b ∷ bs) h = rw (h, digits)

  pub digits-over : (n b : ℕ) (r : List ℕ) → (digit_of S b ≡ S.base → ⊥) → S.limit < n * S.base + digit_of S b → digits S n (b ∷ r) ≡ bad
  unfolding digits
  digits-over n b r h k = rw (ne_eqb (digit_of S b) S.base h, digits) (rw (lt-ltb S.limit (n * S.base + digit_of S b) k))

  pub digits_more : (n b : ℕ) (r : List ℕ) → (digit_of S b ≡ S.base → ⊥) → n * S.base + digit_of S b ≤ S.limit
      → digits S n (b ∷ r) ≡ digits S (n * S.base + digit_of S b) r
  unfolding digits
  digits_more n b r h k = rw (ne_eqb (digit_of S b) S.base h, digits) (rw (le-ltb S.limit (n * S.base + digit_of S b) k))

  pub numeral-zero : (b : ℕ) (r : List ℕ) → digit_of S b ≡ 0 → numeral S (b ∷ r) ≡ got 0 r
  unfolding numeral
  numeral-zero b r h = rw (eq-eqb (digit_of S b) 0 h, numeral)

  pub numeral-none : (b : ℕ) (r : List ℕ) → (digit_of S b ≡ 0 → ⊥) → digit_of S b ≡ S.base → numeral S (b ∷ r) ≡ bad
  unfolding numeral
  numeral-none b r h k = rw (ne_eqb (digit_of S b) 0 h, numeral) (rw (eq-eqb (digit_of S b) S.base k))

  pub numeral-some : (b : ℕ) (r : List ℕ) → (digit_of S b ≡ 0 → ⊥) → (digit_of S b ≡ S.base → ⊥) → numeral S (b ∷ r) ≡ digits S 0 (b ∷ r)
  unfolding numeral
  numeral-some b r h k = rw (ne_eqb (digit_of S b) 0 h, numeral) (rw (ne_eqb (digit_of S b) S.base k))

  -- the first digit is the number so far
  pub numeral-first : (b : ℕ) (r : List ℕ) → (digit_of S b ≡ 0 → ⊥) → (digit_of S b ≡ S.base → ⊥) → digit_of S b ≤ S.limit
      → numeral S (b ∷ r) ≡ digits S (digit_of S b) r
  numeral-first b r h k l =
      let s : 0 * S.base + digit_of S b ≡ digit_of S b = omega (arith, zero-mul S.base) in
      numeral-some b r h k ∙ (digits_more 0 b r k (rw s l) ∙ rw s)

module _ (S : System) (P : Positional S) where
  -- a byte that is a digit is the digit's byte, and the digit is below the base
  pub digit-byte : (b : ℕ) → (digit_of S b ≡ S.base → ⊥) → S.zero_byte + digit_of S b ≡ b
  unfolding digit_of
  digit-byte b h = go (eqb (class_of b) S.class) refl
    where
      go : (t : Bool) → eqb (class_of b) S.class ≡ t → S.zero_byte + digit_of S b ≡ b
      go true q = rw q (omega (arith, P.from_zero b (eqb-true (class_of b) S.class q)))
      go false q = absurd (h (rw q))

  pub digit-below : (b : ℕ) → (digit_of S b ≡ S.base → ⊥) → digit_of S b < S.base
  unfolding digit_of
  digit-below b h = go (eqb (class_of b) S.class) refl
    where
      go : (t : Bool) → eqb (class_of b) S.class ≡ t → digit_of S b < S.base
      go true q =
          let e = eqb-true (class_of b) S.class q in
          rw q (omega (arith, P.from_zero b e, P.to_base b e))
      go false q = absurd (h (rw q))

  pub digit-most : (b : ℕ) → digit_of S b ≤ S.base
  digit-most b = go (eqb (digit_of S b) S.base) refl
    where
      go : (t : Bool) → eqb (digit_of S b) S.base ≡ t → digit_of S b ≤ S.base
      go true q = omega (arith, eqb-true (digit_of S b) S.base q)
      go false q = omega (arith, digit-below b (eqb-false (digit_of S b) S.base q))

  fewer : (n : ℕ) → S.base ≤ n → n / S.base < n
  fewer n h = div-lt_self (omega (arith, P.base_is)) P.base_is

  remainder : (n : ℕ) → n % S.base < S.base
  remainder n = mod-lt n (omega (arith, P.base_is))

  quotient : (n : ℕ) → S.base ≤ n → 0 < n / S.base
  quotient n h = rw (div-eq-sub-div (omega (arith, P.base_is)) h) (omega arith)

  -- the bound on the digits does not matter if there are enough
  written-enough : (f g n : ℕ) (r : List ℕ) → n < f → n < g → written S f n r ≡ written S g n r
  written-enough zero g n r h k = absurd (omega arith)
  written-enough (suc f) zero n r h k = absurd (omega arith)
  written-enough (suc f) (suc g) n r h k =
      by_less n S.base
      (λ l. rw (written_small S f n r l, written_small S g n r l))
      (λ l. rw (written-large S f n r l, written-large S g n r l)
      (written-enough f g (n / S.base) ((S.zero_byte + n % S.base) ∷ r) (omega (arith, fewer n l)) (omega (arith, fewer n l))))

  pub write-small : (n : ℕ) (r : List ℕ) → n < S.base → write S n r ≡ (S.zero_byte + n) ∷ r
  unfolding write
  write-small n r h = written_small S n n r h

  pub write-large : (n : ℕ) (r : List ℕ) → S.base ≤ n → write S n r ≡ write S (n / S.base) ((S.zero_byte + n % S.base) ∷ r)
  unfolding write
  write-large n r h = written-large S n n r h ∙ written-enough n (suc (n / S.base)) (n / S.base) _ (fewer n h) (omega arith)

  -- one more digit
  pub write-more : (a d : ℕ) (r : List ℕ) → 0 < a → d < S.base → write S (a * S.base + d) r ≡ write S a ((S.zero_byte + d) ∷ r)
  write-more a d r h l =
      let p : 0 < S.base = omega (arith, P.base_is) in
      let q : (a * S.base + d) / S.base ≡ a = mul-add-div_right p a d ∙ rw (div-eq_of_lt l) (omega arith) in
      let m : (a * S.base + d) % S.base ≡ d = mul-add-mod_self_right a S.base d ∙ mod-eq_of_lt l in
      let g : S.base ≤ a * S.base + d = omega (arith, mul-le-mul_right S.base h, one-mul S.base) in
      write-large (a * S.base + d) r g ∙ rw (q, m)

  -- What is read was written

  got-was : (a n : ℕ) (bs r : List ℕ) → a ≤ S.limit → got a bs ≡ got n r → Was S n (write S a bs) r
  got-was a n bs r l e =
      let x : a ≡ n = cc in
      let y : bs ≡ r = cc in
      record { text = rw (x, y); bound = rw (← x) l }

  -- the number so far, in front of what is left, is the number read in front of the rest
  digits-was : (a n : ℕ) (bs r : List ℕ) → 0 < a → a ≤ S.limit → digits S a bs ≡ got n r → Was S n (write S a bs) r
  unfolding digits
  digits-was a n [] r h l e = got-was a n [] r l e
  digits-was a n (b ∷ bs) r h l e =
      go (eqb (digit_of S b) S.base) (ltb S.limit (a * S.base + digit_of S b)) refl refl (digits-was (a * S.base + digit_of S b) n bs r)
    where
      go : (s t : Bool) → eqb (digit_of S b) S.base ≡ s → ltb S.limit (a * S.base + digit_of S b) ≡ t
          → (0 < a * S.base + digit_of S b → a * S.base + digit_of S b ≤ S.limit → digits S (a * S.base + digit_of S b) bs ≡ got n r
          → Was S n (write S (a * S.base + digit_of S b) bs) r)
          → Was S n (write S a (b ∷ bs)) r
      go true t p q ih = got-was a n (b ∷ bs) r l (rw (p, digits) at e)
      go false true p q ih =
          absurd (bad≢got (sym (digits-over S a b bs (eqb-false _ _ p) (ltb-true _ _ q)) ∙ e))
      go false false p q ih =
          let d = eqb-false (digit_of S b) S.base p in
          let k = ltb-false S.limit (a * S.base + digit_of S b) q in
          let g : 0 < a * S.base + digit_of S b = omega (arith, mul-le-mul_right S.base h, one-mul S.base, P.base_is) in
          let w = ih g k (sym (digits_more S a b bs d k) ∙ e) in
          record {
            text = ap (λ x. write S a (x ∷ bs)) (sym (digit-byte b d)) ∙ (sym (write-more a (digit_of S b) bs h (digit-below b d)) ∙ w.text);
            bound = w.bound;
          }

  -- the first digit, which is not 0
  first-was : (b n : ℕ) (bs r : List ℕ) → (digit_of S b ≡ 0 → ⊥) → (digit_of S b ≡ S.base → ⊥) → digits S 0 (b ∷ bs) ≡ got n r → Was S n (b ∷ bs) r
  first-was b n bs r z d e =
      let s : 0 * S.base + digit_of S b ≡ digit_of S b = omega (arith, zero-mul S.base) in
      let t : write S (digit_of S b) bs ≡ b ∷ bs = write-small (digit_of S b) bs (digit-below b d) ∙ rw (digit-byte b d) in
      by_less S.limit (0 * S.base + digit_of S b)
      (λ l. absurd (bad≢got (sym (digits-over S 0 b bs d l) ∙ e)))
      (λ l.
      let w = digits-was (digit_of S b) n bs r (omega arith) (omega arith) (rw (digits_more S 0 b bs d l, s) at e) in
      record { text = sym t ∙ w.text; bound = w.bound })

  pub written-number : (bs : List ℕ) (n : ℕ) (r : List ℕ) → numeral S bs ≡ got n r → Was S n bs r
  unfolding numeral
  written-number [] n r e = absurd (bad≢got e)
  written-number (b ∷ bs) n r e = go (eqb (digit_of S b) 0) (eqb (digit_of S b) S.base) refl refl
    where
      go : (s t : Bool) → eqb (digit_of S b) 0 ≡ s → eqb (digit_of S b) S.base ≡ t → Was S n (b ∷ bs) r
      go true t p q =
          let z : digit_of S b ≡ 0 = eqb-true (digit_of S b) 0 p in
          let x : got 0 bs ≡ got n r = sym (numeral-zero S b bs z) ∙ e in
          let y : 0 ≡ n = cc in
          let w : bs ≡ r = cc in
          let k : S.zero_byte + 0 ≡ b = ap (λ x. S.zero_byte + x) (sym z) ∙ digit-byte b (λ u. omega (arith, P.base_is)) in
          record { text = rw (← y, ← w, write-small 0 bs (omega (arith, P.base_is)), k); bound = omega arith }
      go false true p q = absurd (bad≢got (sym (numeral-none S b bs (eqb-false _ _ p) (eqb-true _ _ q)) ∙ e))
      go false false p q =
          let z = eqb-false (digit_of S b) 0 p in
          let d = eqb-false (digit_of S b) S.base q in
          first-was b n bs r z d (sym (numeral-some S b bs z d) ∙ e)

-- What is written is read, in a system that has a byte for each digit

module _ (S : System) (P : Positional S) (all : (d : ℕ) → d < S.base → digit_of S (S.zero_byte + d) ≡ d) where
  digits-digit : (a d : ℕ) (r : List ℕ) → d < S.base → a * S.base + d ≤ S.limit → digits S a ((S.zero_byte + d) ∷ r) ≡ digits S (a * S.base + d) r
  digits-digit a d r h l =
      let e = all d h in
      digits_more S a (S.zero_byte + d) r (λ q. omega arith) (rw e l) ∙ rw e

  digits-written : (f n : ℕ) (r : List ℕ) → n < f → n ≤ S.limit → digits S 0 (written S f n r) ≡ digits S n r
  digits-written zero n r h l = absurd (omega arith)
  digits-written (suc f) n r h l =
      let s : 0 * S.base + n ≡ n = omega (arith, zero-mul S.base) in
      by_less n S.base
      (λ k. rw (written_small S f n r k, digits-digit 0 n r k (rw s l), s))
      (λ k.
      let w = div-add-mod' n S.base in
      let u = fewer S P n k in
      rw (
        written-large S f n r k,
        digits-written f (n / S.base) ((S.zero_byte + n % S.base) ∷ r) (omega arith) (omega arith),
        digits-digit (n / S.base) (n % S.base) r (remainder S P n) (rw w l),
        w,
      ))

  digits-write : (n : ℕ) (r : List ℕ) → n ≤ S.limit → digits S 0 (write S n r) ≡ digits S n r
  unfolding write
  digits-write n r l = digits-written (suc n) n r (omega arith) l

  -- how a written number begins: with a digit, which is 0 for 0 alone
  begins : {C : Type 0} (f n : ℕ) (r : List ℕ) → n < f
      → ((d : ℕ) (bs : List ℕ) → written S f n r ≡ (S.zero_byte + d) ∷ bs → d < S.base → (0 < n → 0 < d) → C) → C
  begins zero n r h k = absurd (omega arith)
  begins (suc f) n r h k =
      by_less n S.base
      (λ l. k n r (written_small S f n r l) l (λ p. p))
      (λ l. begins f (n / S.base) ((S.zero_byte + n % S.base) ∷ r) (omega (arith, fewer S P n l))
      (λ d bs e m p. k d bs (written-large S f n r l ∙ e) m (λ q. p (quotient S P n l))))

  pub written-begins : {C : Type 0} (n : ℕ) (r : List ℕ)
      → ((d : ℕ) (bs : List ℕ) → write S n r ≡ (S.zero_byte + d) ∷ bs → d < S.base → (0 < n → 0 < d) → C) → C
  unfolding write
  written-begins n r k = begins (suc n) n r (omega arith) k

  pub read-written : (n : ℕ) (r : List ℕ) → n ≤ S.limit → no_digit S r ≡ true → numeral S (write S n r) ≡ got n r
  read-written zero r l h =
      let z : 0 < S.base = omega (arith, P.base_is) in
      rw (write-small S P 0 r z) (numeral-zero S (S.zero_byte + 0) r (all 0 z))
  read-written (suc n) r l h =
      written-begins (suc n) r λ d bs e m p.
      let q = all d m in
      let z : 0 < d = p (omega arith) in
      ap (numeral S) e ∙ (numeral-some S (S.zero_byte + d) bs (λ u. omega arith) (λ u. omega arith)
      ∙ (ap (digits S 0) (sym e) ∙ (digits-write (suc n) r l ∙ digits-stop S (suc n) r h)))
