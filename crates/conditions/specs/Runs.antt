-- Numbers that repeat: of ascending numbers those that are equal stand together, so that one stands more than m + 1 times exactly if two that are
-- m + 1 places apart are equal. Assumes nothing.
use Prim.Native.Nat.{ℕ, zero, suc, ◌+◌, ◌-◌, ◌≤◌, ◌<◌, zero-le}
use Rattle.std.specs.Prelude.{◌≡◌, Bool, true, false, ◌&&◌, not, List, [], ◌∷◌, eqb, ltb, get_or}
use Rattle.std.proofs.Math.Path.{refl}
use Rattle.std.proofs.Common.{sym, ap₂, ◌∙◌, eq-eqb, ne_eqb, eqb-true, lt-ltb, le-ltb, ltb-true, ltb-false}
use native.Mathlib.Omega.{arith}
use Rattle.std.proofs.Math.ListN.{length}
use Rattle.std.proofs.lemmas.Bool.{eqb-false}
use Rattle.grammar.specs.Conditions.Decides.{decides-same, lt-decides, equivalent, count, few, all_below}
use Rattle.grammar.specs.Format.Ordered.{Before, before_empty, before_less, before_same}
use Rattle.conditions.specs.Answers.{then-and, below-front, below-same}

-- the first number of a key
unfoldable pub lead : List ℕ → ℕ
lead [] = 0
lead (x ∷ xs) = x

pub before-lead : {xs ys : List ℕ} → Before xs ys → lead xs ≤ lead ys
unfolding lead
before-lead before_empty = zero-le
before-lead (before_less h) = omega arith
before-lead (before_same b) = omega arith

pub count_same : (k x : ℕ) (l : List ℕ) → x ≡ k → count k (x ∷ l) ≡ suc (count k l)
unfolding count
count_same k x l e = rw (eq-eqb x k e, count)

pub count-other : (k x : ℕ) (l : List ℕ) → (x ≡ k → ⊥) → count k (x ∷ l) ≡ count k l
unfolding count
count-other k x l e = rw (ne_eqb x k e, count)

pub few-front : (n x : ℕ) (l : List ℕ) → few n (x ∷ l) ≡ ltb (count x l) n && few n l
unfolding few
few-front n x l = then-and (ltb (count x l) n) (few n l)

-- none is smaller than one before it
pub data Sorted : List ℕ → Type 0 where
  sorted-[] : Sorted []
  sorted-∷ : {x : ℕ} {l : List ℕ} → ((j : ℕ) → j < length l → x ≤ get_or l j 0) → Sorted l → Sorted (x ∷ l)

count-le : (x : ℕ) (l : List ℕ) → count x l ≤ length l
unfolding count
count-le x [] = omega arith
count-le x (y ∷ l) = go (count-le x l) (eqb y x) refl
  where
    go : count x l ≤ length l → (t : Bool) → eqb y x ≡ t → count x (y ∷ l) ≤ suc (length l)
    go rest true q = omega (arith, count_same x y l (eqb-true y x q))
    go rest false q = omega (arith, count-other x y l (eqb-false y x q))

count_none : (x : ℕ) (l : List ℕ) → ((j : ℕ) → j < length l → x < get_or l j 0) → count x l ≡ 0
unfolding count
count_none x [] h = refl
count_none x (y ∷ l) h = count-other x y l (λ e. omega (arith, h 0 (omega arith))) ∙ count_none x l (λ j q. h (suc j) (omega arith))

-- x stands in the first places, and in no others
front : (x : ℕ) {l : List ℕ} → Sorted l → ((j : ℕ) → j < length l → x ≤ get_or l j 0) → (m : ℕ) → m < length l → eqb x (get_or l m 0) ≡ ltb m (count x l)
front x sorted-[] h m e = absurd (omega arith)
front x (sorted-∷ {x = y} {l} least s) h m e = go (front x s (λ j q. h (suc j) (omega arith))) m e (eqb y x) refl
  where
    larger : (y ≡ x → ⊥) → (j : ℕ) → j < suc (length l) → x < get_or (y ∷ l) j 0
    larger d zero q = omega (arith, h 0 (omega arith))
    larger d (suc j) q = omega (arith, h 0 (omega arith), least j (omega arith))

    go : ((m : ℕ) → m < length l → eqb x (get_or l m 0) ≡ ltb m (count x l)) → (m : ℕ) → m < suc (length l) → (t : Bool) → eqb y x ≡ t
        → eqb x (get_or (y ∷ l) m 0) ≡ ltb m (count x (y ∷ l))
    go further zero e true q =
        eq-eqb x y (sym (eqb-true y x q)) ∙ sym (lt-ltb 0 (count x (y ∷ l)) (omega (arith, count_same x y l (eqb-true y x q))))
    go further (suc m) e true q =
        let more : count x (y ∷ l) ≡ suc (count x l) = count_same x y l (eqb-true y x q) in
        further m (omega arith)
        ∙ decides-same (lt-decides m (count x l)) (equivalent (λ h. omega arith) (λ h. omega arith) (lt-decides (suc m) (count x (y ∷ l))))
    go further m e false q =
        ne_eqb x (get_or (y ∷ l) m 0) (λ p. omega (arith, larger (eqb-false y x q) m e))
        ∙ sym (le-ltb m (count x (y ∷ l)) (omega (arith, count_none x (y ∷ l) (larger (eqb-false y x q)))))

-- no x further on, m places on, exactly if there are at most m of them
none_apart : (m x : ℕ) {l : List ℕ} → Sorted l → ((j : ℕ) → j < length l → x ≤ get_or l j 0) → m < length l → ltb (count x l) (suc m) ≡ not (eqb x (get_or l m 0))
none_apart m x {l} s least h = rw (front x s least m h) (go (ltb m (count x l)) refl)
  where
    go : (t : Bool) → ltb m (count x l) ≡ t → ltb (count x l) (suc m) ≡ not t
    go true q = le-ltb (count x l) (suc m) (ltb-true m (count x l) q)
    go false q = lt-ltb (count x l) (suc m) (omega (arith, ltb-false m (count x l) q))

module _ (m : ℕ) where
  abbrev pub apart : List ℕ → ℕ → Bool
  apart xs i = not (eqb (get_or xs i 0) (get_or xs (i + suc m) 0))

  pub few-sorted : {xs : List ℕ} → Sorted xs → few (suc m) xs ≡ all_below (length xs - suc m) (apart xs)
  unfolding few all_below
  few-sorted sorted-[] = let e : 0 - suc m ≡ 0 = omega arith in rw e
  few-sorted (sorted-∷ {x} {l} least s) = few-front (suc m) x l ∙ go (few-sorted s) (ltb m (length l)) refl
    where
      later : (i : ℕ) → i < length l - suc m → apart l i ≡ apart (x ∷ l) (suc i)
      later i h = let e : suc i + suc m ≡ suc (i + suc m) = omega arith in rw e

      go : few (suc m) l ≡ all_below (length l - suc m) (apart l) → (t : Bool) → ltb m (length l) ≡ t
          → ltb (count x l) (suc m) && few (suc m) l ≡ all_below (suc (length l) - suc m) (apart (x ∷ l))
      go rest true q =
          let e : suc (length l) - suc m ≡ suc (length l - suc m) = omega (arith, ltb-true m (length l) q) in
          let first : 0 + suc m ≡ suc m = omega arith in
          let here : ltb (count x l) (suc m) ≡ apart (x ∷ l) 0 = rw first (none_apart m x s least (ltb-true m (length l) q)) in
          rw e (ap₂ ◌&&◌ here (rest ∙ below-same (length l - suc m) later)
          ∙ sym (below-front (apart (x ∷ l)) (length l - suc m)))
      go rest false q =
          let short : length l ≤ m = ltb-false m (length l) q in
          let e : suc (length l) - suc m ≡ 0 = omega arith in
          let f : length l - suc m ≡ 0 = omega arith in
          rw (e, lt-ltb (count x l) (suc m) (omega (arith, count-le x l))) (rest ∙ rw f)

-- opens every definition of this module
unfoldable pub opens : Unit {0}
unfolding lead
opens = tt
