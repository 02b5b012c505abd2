-- Decimal digits put into a buffer: how many a number has, that they are the library's, and that those put from the last to the first are the number's.
-- Assumes nothing.
use Rattle.std.specs.Prelude.{ℕ, zero, suc, ◌+◌, ◌-◌, ◌/◌, ◌%◌, ◌^◌, ◌≤◌, ◌<◌, ◌≡◌, refl, List, [], ◌∷◌, ◌++◌, length, take, drop, set}
use Rattle.std.proofs.Common.{sym, ap, ◌∙◌, append_assoc, arith, pow-suc, div-lt_iff_lt-mul, add-one, length-set, drop-set-lt, drop-cons, get_or-set_same, take-add}
use Rattle.std.proofs.lemmas.List.{take-set-le}
use Rattle.std.specs.Fmt.{decimal as digits_of}
use Rattle.std.proofs.lemmas.Fmt.{decimal_by_steps}
use Rattle.text.specs.Numeral.{decimal, written, write}
use Rattle.text.proofs.Positional.{by_less, decimal-positional, written_small, written-large, write-small, write-large}
use Rattle.grammar.specs.Format.Printer.{numeral}
use Rattle.console.specs.Output.{Puts}

-- how many digits a number has
unfoldable pub width : ℕ → ℕ
width n = length (numeral n [])

pub small-digits : (n : ℕ) (r : List ℕ) → n < 10 → numeral n r ≡ (48 + n) ∷ r
small-digits n r h = write-small decimal decimal-positional n r h

pub large-digits : (n : ℕ) (r : List ℕ) → 10 ≤ n → numeral n r ≡ numeral (n / 10) ((48 + n % 10) ∷ r)
large-digits n r h = write-large decimal decimal-positional n r h

length-written : (f n : ℕ) (r : List ℕ) → length (written decimal f n r) ≡ length (written decimal f n []) + length r
unfolding written
length-written zero n r = omega arith
length-written (suc f) n r =
    by_less n 10
    (λ h. rw (written_small decimal f n r h, written_small decimal f n [] h) (omega arith))
    (λ h. rw (written-large decimal f n r h, written-large decimal f n [] h)
    (omega (arith, length-written f (n / 10) ((48 + n % 10) ∷ r), length-written f (n / 10) ((48 + n % 10) ∷ []))))

pub length-numeral : (n : ℕ) (r : List ℕ) → length (numeral n r) ≡ width n + length r
unfolding width write
length-numeral n r = length-written (suc n) n r

pub width_small : (n : ℕ) → n < 10 → width n ≡ 1
unfolding width
width_small n h = rw (small-digits n [] h)

pub width-large : (n : ℕ) → 10 ≤ n → width n ≡ width (n / 10) + 1
unfolding width
width-large n h = rw (large-digits n [] h) (length-numeral (n / 10) _)

pub width_some : (n : ℕ) → 1 ≤ width n
width_some n = by_less n 10 (λ h. omega (arith, width_small n h)) (λ h. omega (arith, width-large n h))

width-below : (k n : ℕ) → n < 10 ^ suc k → width n ≤ suc k
width-below zero n h = omega (arith, width_small n h)
width-below (suc k) n h =
    by_less n 10 (λ l. omega (arith, width_small n l))
    (λ l. omega (arith, width-large n l, width-below k (n / 10) ((div-lt_iff_lt-mul (omega arith)).1 (rw pow-suc at h))))

-- "numbers of 1 to 10 digits"
pub width-most : (n : ℕ) → n ≤ 4294967295 → width n ≤ 10
width-most n h = width-below 9 n (omega arith)

pub numeral-most : (n : ℕ) → n ≤ 4294967295 → (r : List ℕ) → length (numeral n r) ≤ 10 + length r
numeral-most n h r = omega (arith, length-numeral n r, width-most n h)

-- the digits are those that the library prints
pub numeral-is : (n : ℕ) → n ≤ 4294967295 → (r : List ℕ) → numeral n r ≡ digits_of n ++ r
numeral-is n h = decimal_by_steps (λ n ds. (r : List ℕ) → numeral n r ≡ ds ++ r) one more n (omega arith)
  where
    one : (n : ℕ) → n < 10 → (r : List ℕ) → numeral n r ≡ ((48 + n) ∷ []) ++ r
    one n h r = small-digits n r h

    more : (n : ℕ) (ds : List ℕ) → 10 ≤ n → ((r : List ℕ) → numeral (n / 10) r ≡ ds ++ r) → (r : List ℕ) → numeral n r ≡ (ds ++ ((48 + n % 10) ∷ [])) ++ r
    more n ds h f r = large-digits n r h ∙ f ((48 + n % 10) ∷ r) ∙ sym (append_assoc ds ((48 + n % 10) ∷ []) r)

-- how many digits a number of 32 bits has
pub record Wide (n r : ℕ) : Type 0 where
  pub is : r ≡ width n
  pub some : 1 ≤ r
  pub most : r ≤ 10

pub wide : {n r : ℕ} → n ≤ 4294967295 → r ≡ width n → Wide n r
wide {n} h e = record { is = e; some = omega (arith, width_some n); most = omega (arith, width-most n h) }

-- Putting a number's digits, the last one first: the digits of v are still to be put, up to the place i
pub record Filling (n at next : ℕ) (before : List ℕ) (v i : ℕ) (out : List ℕ) : Type 0 where
  pub same_length : length out ≡ length before
  pub end : next ≡ at + width n
  pub place : i + 1 ≡ at + width v
  pub to_come : i < next
  pub room : next ≤ length out
  pub front : take at out ≡ take at before
  pub back : (r : List ℕ) → numeral v (take (next - (i + 1)) (drop (i + 1) out) ++ r) ≡ numeral n r

-- a stored element and what stands after it
stored : (out : List ℕ) (i d m : ℕ) → i < length out → take (m + 1) (drop i (set out i d)) ≡ d ∷ take m (drop (i + 1) out)
stored out i d m h =
    rw (
      drop-cons (set out i d) i 0 (rw (length-set out i d) h),
      add-one m,
      get_or-set_same out i d 0 h,
      drop-set-lt (suc i) out i d (omega arith),
      add-one i,
    )

module _ (n at next : ℕ) (before : List ℕ) where
  pub filling-start : next ≤ length before → next ≡ at + width n → Filling n at next before n (next - 1) before
  filling-start h q =
      let s = width_some n in
      let e : next - 1 + 1 ≡ next = omega arith in
      let z : next - next ≡ 0 = omega arith in
      record { same_length = refl; end = q; place = e ∙ q; to_come = omega arith; room = h; front = refl; back = λ r. rw (e, z) }

  module _ {v i : ℕ} {out : List ℕ} (f : Filling n at next before v i out) where
    pub filling-more : 10 ≤ v → 1 ≤ i
    filling-more h = omega (arith, f.place, width-large v h, width_some (v / 10))

    pub filling-turn : {d : ℕ} → 10 ≤ v → d ≡ 48 + v % 10 → Filling n at next before (v / 10) (i - 1) (set out i d)
    filling-turn {d} h q =
        let w = width-large v h in
        let s = width_some (v / 10) in
        let e : i - 1 + 1 ≡ i = omega (arith, f.place) in
        let l : i < length out = omega (arith, f.to_come, f.room) in
        let m : next - i ≡ (next - (i + 1)) + 1 = omega (arith, f.to_come) in
        record {
          same_length = length-set out i d ∙ f.same_length;
          end = f.end;
          place = omega (arith, f.place);
          to_come = omega (arith, f.to_come);
          room = rw (length-set out i d) f.room;
          front = take-set-le at out i d (omega (arith, f.place)) ∙ f.front;
          back = λ r. rw (e, m, stored out i d (next - (i + 1)) l, q) (sym (large-digits v _ h) ∙ f.back r);
        }

    pub filling-end : {d : ℕ} → v < 10 → n ≤ 4294967295 → d ≡ 48 + v → Puts (numeral n) 10 before at (set out i d) next
    filling-end {d} h k z =
        let w = width_small v h in
        let e : i ≡ at = omega (arith, f.place) in
        let l : at < length out = omega (arith, f.to_come, f.room) in
        let t : set out i d ≡ set out at d = rw e in
        let q : next ≡ at + ((next - (at + 1)) + 1) = omega (arith, f.to_come) in
        let b : (r : List ℕ) → numeral v (take (next - (at + 1)) (drop (at + 1) out) ++ r) ≡ numeral n r = rw e at f.back in
        let digits : take next (set out i d) ≡ take at before ++ (d ∷ take (next - (at + 1)) (drop (at + 1) out)) =
        rw t (ap (λ (j : ℕ). take j (set out at d)) q ∙ rw (
          take-add at ((next - (at + 1)) + 1) (set out at d),
          take-set-le at out at d (omega arith),
          f.front,
          stored out at d (next - (at + 1)) l,
        )) in
        record {
          text_is = λ r.
              rw (digits, z) (append_assoc (take at before) _ r ∙ ap (λ (l : List ℕ). take at before ++ l) (sym (small-digits v _ h) ∙ b r));
          within = omega (arith, width-most n k, f.end);
        }
