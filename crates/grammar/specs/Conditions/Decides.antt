-- Tests that compute, and what each decides: of numbers, of lists, of the numbers below a bound.
-- A test that is done at the first failure is written with `elim`, so that nothing more is computed. Assumes nothing.
use Rattle.std.specs.Prelude.{ℕ, zero, suc, ◌≤◌, ◌<◌, ◌≡◌, refl, Bool, true, false, ◌&&◌, leb, ltb, eqb}
use Rattle.std.proofs.Common.{zero-le, arith, sym, ltb-true, lt-ltb, leb-true, le-leb, eqb-true, eq-eqb}
use Rattle.std.proofs.lemmas.Bool.{false≢true, eqb-false}
use mathlib.Core.List.Memᴰ.{head as in_head}
use mathlib.Core.List.Memᴰ.{not-nil as not-in-nil}
use mathlib.Core.List.Memᴰ.{tail as in_Tail}
use mathlib.Core.List.{List, [], ◌∷◌, Memᴰ as Mem}

-- the test t is true exactly if A holds
pub record Decides (t : Bool) (A : Type 0) : Type 0 where
  pub sound : t ≡ true → A
  pub complete : A → t ≡ true

pub true-decides : {A : Type 0} → A → Decides true A
true-decides a = record { sound = λ e. a; complete = λ h. refl }

pub false-decides : {A : Type 0} → (A → ⊥) → Decides false A
false-decides f = record { sound = λ e. absurd (false≢true e); complete = λ h. absurd (f h) }

pub refutes : {A : Type 0} → Decides false A → A → ⊥
refutes d a = false≢true (d.complete a)

-- a test by what it decides
pub by-decided : {A C : Type 0} {t : Bool} → Decides t A → (t ≡ true → A → C) → (t ≡ false → (A → ⊥) → C) → C
by-decided {t = true} d f g = f refl (d.sound refl)
by-decided {t = false} d f g = g refl (refutes d)

pub false_of : {A : Type 0} {t : Bool} → Decides t A → (A → ⊥) → t ≡ false
false_of d h = by-decided d (λ e a. absurd (h a)) (λ e n. e)

-- two tests of one statement are the same
pub decides-same : {s t : Bool} {A : Type 0} → Decides s A → Decides t A → s ≡ t
decides-same {s = true} {t = t} d e = sym (e.complete (d.sound refl))
decides-same {s = false} {t = true} d e = d.complete (e.sound refl)
decides-same {s = false} {t = false} d e = refl

-- what decides A decides every statement that is equivalent to A
pub equivalent : {t : Bool} {A B : Type 0} → (A → B) → (B → A) → Decides t A → Decides t B
equivalent f g d = record { sound = λ e. f (d.sound e); complete = λ h. d.complete (g h) }

pub le-decides : (m n : ℕ) → Decides (leb m n) (m ≤ n)
le-decides m n = record { sound = leb-true m n; complete = le-leb m n }

pub lt-decides : (m n : ℕ) → Decides (ltb m n) (m < n)
lt-decides m n = record { sound = ltb-true m n; complete = lt-ltb m n }

pub eq-decides : (m n : ℕ) → Decides (eqb m n) (m ≡ n)
eq-decides m n = record { sound = eqb-true m n; complete = eq-eqb m n }

-- both tests; in the first form the second is asked only where the first holds
pub then-decides : {s t : Bool} {A B : Type 0} → Decides s A → Decides t B → Decides (elim s [ true ↦ t | false ↦ false ]) (A × B)
then-decides {s = true} p q = equivalent (λ h. (p.sound refl, h)) (λ h. h.1) q
then-decides {s = false} p q = false-decides λ h. refutes p h.0

pub and-decides : {s t : Bool} {A B : Type 0} → Decides s A → Decides t B → Decides (s && t) (A × B)
and-decides {s = true} p q = then-decides p q
and-decides {s = false} p q = then-decides p q

pub and3-decides : {r s t : Bool} {A B C : Type 0} → Decides r A → Decides s B → Decides t C → Decides (r && s && t) (A × B × C)
and3-decides p q r = equivalent (λ ((x, y), z). (x, y, z)) (λ (x, y, z). ((x, y), z)) (and-decides (and-decides p q) r)

pub and4-decides : {q r s t : Bool} {A B C D : Type 0} → Decides q A → Decides r B → Decides s C → Decides t D
    → Decides (q && r && s && t) (A × B × C × D)
and4-decides p q r s = equivalent (λ ((w, x, y), z). (w, x, y, z)) (λ (w, x, y, z). ((w, x, y), z)) (and-decides (and3-decides p q r) s)

pub and5-decides : {p q r s t : Bool} {A B C D E : Type 0} → Decides p A → Decides q B → Decides r C → Decides s D → Decides t E
    → Decides (p && q && r && s && t) (A × B × C × D × E)
and5-decides p q r s t = equivalent (λ ((v, w, x, y), z). (v, w, x, y, z)) (λ (v, w, x, y, z). ((v, w, x, y), z)) (and-decides (and4-decides p q r s) t)

-- the second test where the first holds
pub if-decides : {s t : Bool} {A B : Type 0} → Decides s A → Decides t B → Decides (elim s [ true ↦ t | false ↦ true ]) (A → B)
if-decides {s = true} p q = equivalent (λ b a. b) (λ f. f (p.sound refl)) q
if-decides {s = false} p q = true-decides λ a. absurd (refutes p a)

-- k is 1 to n
pub record OneTo (n k : ℕ) : Type 0 where
  pub low : 1 ≤ k
  pub high : k ≤ n

unfoldable pub one_to : ℕ → ℕ → Bool
one_to n k = leb 1 k && leb k n

pub one_to-decides : (n k : ℕ) → Decides (one_to n k) (OneTo n k)
unfolding one_to
one_to-decides n k =
    equivalent (λ h. record { low = h.0; high = h.1 }) (λ h. (h.low, h.high)) (and-decides (le-decides 1 k) (le-decides k n))

module _ {A : Type 0} where
  -- the test holds of every element of the list
  unfoldable pub all : (A → Bool) → List A → Bool
  all f [] = true
  all f (x ∷ l) = elim (f x) [ true ↦ all f l | false ↦ false ]

  pub all-decides : {f : A → Bool} {P : A → Type 0} → ((x : A) → Decides (f x) (P x)) → (l : List A) → Decides (all f l) ((x : A) → Mem x l → P x)
  unfolding all
  all-decides d [] = true-decides λ x m. absurd (not-in-nil m)
  all-decides {f} {P} d (y ∷ l) = equivalent join (λ h. (h y (in_head refl), λ x m. h x (in_Tail m))) (then-decides (d y) (all-decides d l))
    where
      join : (P y × ((x : A) → Mem x l → P x)) → (x : A) → Mem x (y ∷ l) → P x
      join h x (in_head e) = rw e h.0
      join h x (in_Tail m) = h.1 x m

  -- the test holds of some element of the list
  unfoldable pub any : (A → Bool) → List A → Bool
  any f [] = false
  any f (x ∷ l) = elim (f x) [ true ↦ true | false ↦ any f l ]

  pub any-decides : {f : A → Bool} {P : A → Type 0} → ((x : A) → Decides (f x) (P x)) → (l : List A) → Decides (any f l) ((x : A) × Mem x l × P x)
  unfolding any
  any-decides d [] = false-decides λ h. not-in-nil h.1
  any-decides {f} {P} d (y ∷ l) = go (d y) (any-decides d l)
    where
      further : (P y → ⊥) → (x : A) → Mem x (y ∷ l) → P x → (x : A) × Mem x l × P x
      further n x (in_head e) p = absurd (n (rw e at p))
      further n x (in_Tail m) p = (x, m, p)

      go : {s t : Bool} → Decides s (P y) → Decides t ((x : A) × Mem x l × P x)
          → Decides (elim s [ true ↦ true | false ↦ t ]) ((x : A) × Mem x (y ∷ l) × P x)
      go {s = true} p q = true-decides (y, in_head refl, p.sound refl)
      go {s = false} p q = equivalent (λ h. (h.0, in_Tail h.1, h.2)) (λ h. further (refutes p) h.0 h.1 h.2) q

-- the test holds of every number below n
unfoldable pub all_below : ℕ → (ℕ → Bool) → Bool
all_below zero f = true
all_below (suc n) f = elim (all_below n f) [ true ↦ f n | false ↦ false ]

pub all_below-decides : {f : ℕ → Bool} {P : ℕ → Type 0} → ((i : ℕ) → Decides (f i) (P i)) → (n : ℕ) → Decides (all_below n f) ((i : ℕ) → i < n → P i)
unfolding all_below
all_below-decides d zero = true-decides λ i h. absurd (omega arith)
all_below-decides {f} {P} d (suc n) = equivalent join (λ h. (λ i l. h i (omega arith), h n (omega arith))) (then-decides (all_below-decides d n) (d n))
  where
    join : (((i : ℕ) → i < n → P i) × P n) → (i : ℕ) → i < suc n → P i
    join h i l = go (eqb i n) refl
      where
        go : (s : Bool) → eqb i n ≡ s → P i
        go true e = rw (eqb-true i n e) h.1
        go false e = let d : i ≡ n → ⊥ = eqb-false i n e in h.0 i (omega arith)

-- the test holds of every number that is 1 to n
unfoldable pub all_one_to : ℕ → (ℕ → Bool) → Bool
all_one_to n f = all_below n λ i. f (suc i)

pub all_one_to-decides : {f : ℕ → Bool} {P : ℕ → Type 0} → ((k : ℕ) → Decides (f k) (P k)) → (n : ℕ) → Decides (all_one_to n f) ((k : ℕ) → OneTo n k → P k)
unfolding all_one_to
all_one_to-decides {f} {P} d n =
    equivalent join (λ h i l. h (suc i) (record { low = omega arith; high = omega arith })) (all_below-decides (λ i. d (suc i)) n)
  where
    join : ((i : ℕ) → i < n → P (suc i)) → (k : ℕ) → OneTo n k → P k
    join h zero l = absurd (omega arith)
    join h (suc i) l = h i (omega arith)

-- how often the number k stands in the list
unfoldable pub count : ℕ → List ℕ → ℕ
count k [] = 0
count k (x ∷ l) = elim (eqb x k) [ true ↦ suc (count k l) | false ↦ count k l ]

-- no number stands in the list more than n times: none has n more of its kind behind it
unfoldable pub few : ℕ → List ℕ → Bool
few n [] = true
few n (x ∷ l) = elim (ltb (count x l) n) [ true ↦ few n l | false ↦ false ]

pub few-decides : (n : ℕ) (l : List ℕ) → Decides (few n l) ((k : ℕ) → count k l ≤ n)
unfolding count few
few-decides n [] = true-decides λ k. zero-le
few-decides n (x ∷ l) = equivalent join split (then-decides (lt-decides (count x l) n) (few-decides n l))
  where
    join : ((count x l < n) × ((k : ℕ) → count k l ≤ n)) → (k : ℕ) → count k (x ∷ l) ≤ n
    join h k = go (eqb x k) refl
      where
        go : (s : Bool) → eqb x k ≡ s → elim s [ true ↦ suc (count k l) | false ↦ count k l ] ≤ n
        go true e = rw (← eqb-true x k e) h.0
        go false e = h.1 k

    split : ((k : ℕ) → count k (x ∷ l) ≤ n) → (count x l < n) × ((k : ℕ) → count k l ≤ n)
    split h = (here, λ k. go k (eqb x k) (h k))
      where
        here : count x l < n
        here = rw (eq-eqb x x refl, count) at (h x)

        go : (k : ℕ) (s : Bool) → elim s [ true ↦ suc (count k l) | false ↦ count k l ] ≤ n → count k l ≤ n
        go k true q = omega arith
        go k false q = q

-- opens every definition of this module
unfoldable pub opens : Unit {0}
unfolding one_to all any all_below all_one_to count few
opens = tt
