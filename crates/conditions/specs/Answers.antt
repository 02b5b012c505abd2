-- Contracts of functions over arrays speak of what the arrays hold, which the code does not know: such a function is asked where something is held,
-- and answers for whatever is held. With laws of tests by parts. Assumes nothing.
use Rattle.std.specs.Prelude.{ℕ, zero, suc, ◌+◌, ◌<◌, ◌≡◌, Bool, true, false, ◌&&◌, List, [], ◌∷◌, eqb, length, get_or}
use Rattle.std.proofs.Common.{arith, sym, ap, ap₂, ◌∙◌, eqb-true}
use Rattle.std.proofs.Math.Path.{refl}
use Rattle.std.proofs.Math.Bool.{and_assoc, and-true, and-false}
use Rattle.std.proofs.lemmas.Bool.{eqb-false}
use Rattle.grammar.specs.Conditions.Decides.{Decides, all, all_below, all_below-decides}

-- something is held
abbrev pub Some : {A : Type 0} → (A → Type 0) → Type 0
Some {A} H = (x : A) × H x

-- the answer is the test of whatever is held
pub record Answers {A : Type 0} (H : A → Type 0) (test : A → Bool) (r : Bool) : Type 0 where
  pub for_all : (x : A) → H x → r ≡ test x

pub answers-same : {A : Type 0} {H : A → Type 0} {s t : A → Bool} {r : Bool} → ((x : A) → H x → s x ≡ t x) → Answers H s r → Answers H t r
answers-same e a = record { for_all = λ x h. a.for_all x h ∙ e x h }

-- a test decides that it holds
pub holds : (t : Bool) → Decides t (t ≡ true)
holds t = record { sound = λ e. e; complete = λ e. e }

-- A test of the numbers below a bound, by parts

pub then-and : (s t : Bool) → elim s [ true ↦ t | false ↦ false ] ≡ s && t
then-and true t = refl
then-and false t = refl

-- pair by pair
pub and-mixed : (p q r s : Bool) → (p && q) && (r && s) ≡ (p && r) && (q && s)
and-mixed true true true s = refl
and-mixed true true false s = refl
and-mixed true false true s = refl
and-mixed true false false s = refl
and-mixed false q r s = refl

-- the second is asked where the first holds
pub and-where : (s : Bool) {t u : Bool} → (s ≡ true → t ≡ u) → s && t ≡ s && u
and-where true f = f refl
and-where false f = refl

-- what `a && b` answers, by its first part
pub and-asked : {a b p q : Bool} → a ≡ p → a ≡ true → b ≡ q → b ≡ p && q
and-asked {q = q} e t f = f ∙ ap (λ (s : Bool). s && q) (sym t ∙ e)

pub and-stop : {a p : Bool} (q : Bool) → a ≡ p → a ≡ false → a ≡ p && q
and-stop q e t = t ∙ ap (λ (s : Bool). s && q) (sym t ∙ e)

below_more : (f : ℕ → Bool) (n : ℕ) → all_below (suc n) f ≡ all_below n f && f n
unfolding all_below
below_more f n = then-and (all_below n f) (f n)

pub below-same : {f g : ℕ → Bool} (n : ℕ) → ((i : ℕ) → i < n → f i ≡ g i) → all_below n f ≡ all_below n g
unfolding all_below
below-same zero h = refl
below-same {f} {g} (suc n) h = below_more f n ∙ (ap₂ ◌&&◌ (below-same n (λ i l. h i (omega arith))) (h n (omega arith)) ∙ sym (below_more g n))

-- the first of the numbers apart
pub below-front : (f : ℕ → Bool) (n : ℕ) → all_below (suc n) f ≡ f 0 && all_below n (λ i. f (suc i))
unfolding all_below
below-front f zero = below_more f zero ∙ sym (and-true (f 0))
below-front f (suc n) =
    below_more f (suc n) ∙ (ap (λ (t : Bool). t && f (suc n)) (below-front f n) ∙ (and_assoc (f 0) (all_below n (λ i. f (suc i))) (f (suc n))
    ∙ ap (λ (t : Bool). f 0 && t) (sym (below_more (λ i. f (suc i)) n))))

-- a list's test goes by places
pub all-below : {B : Type 0} (f : B → Bool) (d : B) (xs : List B) → all f xs ≡ all_below (length xs) (λ i. f (get_or xs i d))
unfolding all all_below
all-below f d [] = refl
all-below f d (x ∷ xs) = then-and (f x) (all f xs) ∙ (ap (λ (t : Bool). f x && t) (all-below f d xs)
    ∙ sym (below-front (λ i. f (get_or (x ∷ xs) i d)) (length xs)))

-- the numbers below m, and n more
pub below-join : (f : ℕ → Bool) (m n : ℕ) → all_below (m + n) f ≡ all_below m f && all_below n (λ i. f (m + i))
unfolding all_below
below-join f m zero = let e : m + 0 ≡ m = omega arith in
    rw e (sym (and-true (all_below m f)))
below-join f m (suc n) = let e : m + suc n ≡ suc (m + n) = omega arith in
    rw e (below_more f (m + n) ∙ (ap (λ (t : Bool). t && f (m + n)) (below-join f m n) ∙ (and_assoc (all_below m f) (all_below n (λ i. f (m + i))) (f (m + n))
    ∙ ap (λ (t : Bool). all_below m f && t) (sym (below_more (λ i. f (m + i)) n)))))

-- two tests at once
pub below-and : (f g : ℕ → Bool) (n : ℕ) → all_below n (λ i. f i && g i) ≡ all_below n f && all_below n g
unfolding all_below
below-and f g zero = refl
below-and f g (suc n) =
    below_more (λ i. f i && g i) n ∙ (ap (λ (t : Bool). t && (f n && g n)) (below-and f g n) ∙ (and-mixed (all_below n f) (all_below n g) (f n) (g n)
    ∙ sym (ap₂ ◌&&◌ (below_more f n) (below_more g n))))

pub below_at : (f : ℕ → Bool) (n i : ℕ) → all_below n f ≡ true → i < n → f i ≡ true
below_at f n i e l = (all_below-decides {f = f} (λ k. holds (f k)) n).sound e i l

pub below_all : (f : ℕ → Bool) (n : ℕ) → ((i : ℕ) → i < n → f i ≡ true) → all_below n f ≡ true
below_all f n h = (all_below-decides {f = f} (λ k. holds (f k)) n).complete h

-- a test that fails of one number
pub fails : (f : ℕ → Bool) (n i : ℕ) → i < n → f i ≡ false → all_below n f ≡ false
unfolding all_below
fails f zero i h e = absurd (omega arith)
fails f (suc n) i h e = below_more f n ∙ go (λ l. fails f n i l e) (eqb i n) refl
  where
    go : (i < n → all_below n f ≡ false) → (t : Bool) → eqb i n ≡ t → all_below n f && f n ≡ false
    go further true q = ap (λ (t : Bool). all_below n f && t) (ap f (sym (eqb-true i n q)) ∙ e) ∙ and-false (all_below n f)
    go further false q = let d : i ≡ n → ⊥ = eqb-false i n q in ap (λ (t : Bool). t && f n) (further (omega arith))
