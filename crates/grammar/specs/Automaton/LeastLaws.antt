-- Laws of `least`: it holds what it began with, is closed under the constraints, and is the smallest such family of sets.
-- The measure of its passes is the sum of the sets as numbers: a union that changes a set makes its number larger. Assumes nothing.
use Prim.Native.Nat.{ℕ, zero, suc, ◌+◌, ◌*◌, ◌^◌, ◌<◌, ◌≤◌}
use Rattle.std.specs.Prelude.{◌≡◌, Bool, true, false, List, [], ◌∷◌, ◌⊎◌, eqb, length, set, replicate}
use Rattle.std.proofs.Math.Path.{refl}
use Rattle.std.proofs.Common.{sym, ap, ◌∙◌, subst, inl, inr, arith, eq-eqb, eqb-true}
use Rattle.std.proofs.Math.Logic.{⊎_elim}
use Rattle.std.proofs.Math.ListN.{length-set}
use Rattle.std.proofs.lemmas.List.{length-replicate, set-get_or}
use Rattle.std.proofs.Math.Seq.{get_or-set_same, get_or-set_other}
use Rattle.std.proofs.lemmas.Bool.{eqb-false}
use Rattle.sets.specs.Sets.{bit, union}
use Rattle.sets.specs.Bits.{below_suc}
use Rattle.sets.proofs.SetsLaws.{bit-lt, union-lt, union_left, union_right, union-either, union_more}
use Rattle.grammar.specs.Automaton.Fixpoint.{set_at, same_sets, Constraint, visit, visits, least}
use Rattle.grammar.specs.Automaton.TestLaws.{true-false}
use Rattle.grammar.specs.Automaton.Members.{none_in}
use Rattle.grammar.specs.Automaton.FixpointLaws.{Grows, kept, stays, fixed, again}

-- ---- families of sets

-- n sets, each of numbers below 32
pub record Family (n : ℕ) (sets : List ℕ) : Type 0 where
  pub long : length sets ≡ n
  pub low : (i : ℕ) → set_at sets i < 2 ^ 32

-- every member of every set is as P says
abbrev pub Within : (P : ℕ → ℕ → Type 0) → List ℕ → Type 0
Within P sets = (i a : ℕ) → bit (set_at sets i) a ≡ true → P i a

empty-at : (n i : ℕ) → set_at (replicate n 0) i ≡ 0
empty-at zero i = refl
empty-at (suc n) zero = refl
empty-at (suc n) (suc i) = empty-at n i

-- n empty sets
pub none-family : (n : ℕ) → Family n (replicate n 0)
none-family n = record { long = length-replicate n 0; low = λ i. omega (arith, empty-at n i) }

pub none_within : (P : ℕ → ℕ → Type 0) (n : ℕ) → Within P (replicate n 0)
none_within P n i a e = none_in a (rw (empty-at n i) at e)

-- the sum of the sets as numbers
unfoldable pub total : List ℕ → ℕ
total [] = 0
total (x ∷ sets) = x + total sets

total-set : (sets : List ℕ) (i v : ℕ) → i < length sets → total (set sets i v) + set_at sets i ≡ total sets + v
unfolding total
total-set [] i v h = omega arith
total-set (x ∷ sets) zero v h = omega arith
total-set (x ∷ sets) (suc i) v h = omega (arith, total-set sets i v (omega arith))

total-low : (sets : List ℕ) → ((i : ℕ) → set_at sets i < 2 ^ 32) → total sets ≤ length sets * 2 ^ 32
unfolding total
total-low [] h = omega arith
total-low (x ∷ sets) h = omega (arith, h 0, total-low sets (λ i. h (suc i)))

-- nothing changed, or the total is larger
abbrev pub Grown : List ℕ → List ℕ → Type 0
Grown old new = (new ≡ old) ⊎ (total old < total new)

grown-more : (a b c : List ℕ) → Grown a b → Grown b c → Grown a c
grown-more a b c (inl e) (inl f) = inl (f ∙ e)
grown-more a b c (inl e) (inr m) = inr (omega (arith, ap total e))
grown-more a b c (inr l) (inl f) = inr (omega (arith, ap total f))
grown-more a b c (inr l) (inr m) = inr (omega arith)

-- ---- one visit

module _ (c : Constraint) (sets : List ℕ) where
  visited-here : c.target < length sets → set_at (visit c sets) c.target ≡ union (set_at sets c.target) (c.gives sets)
  unfolding visit
  visited-here h = get_or-set_same sets c.target _ 0 h

  visited-else : (i : ℕ) → (i ≡ c.target → ⊥) → set_at (visit c sets) i ≡ set_at sets i
  unfolding visit
  visited-else i h = get_or-set_other sets c.target i _ 0 h

module _ (c : Constraint) {n : ℕ} {sets : List ℕ} (S : Family n sets) (t : c.target < n) where
  long-enough : c.target < length sets
  long-enough = omega arith

  -- what holds of a set that the constraint leaves, and of the union that it makes, holds of the sets after the visit
  by_place : (P : ℕ → ℕ → Type 0) → ((i : ℕ) → P i (set_at sets i)) → P c.target (union (set_at sets c.target) (c.gives sets))
      → (i : ℕ) → P i (set_at (visit c sets) i)
  by_place P old new i = go (eqb i c.target) refl
    where
      go : (q : Bool) → eqb i c.target ≡ q → P i (set_at (visit c sets) i)
      go true e = rw (eqb-true i c.target e, visited-here c sets long-enough) new
      go false e = rw (visited-else c sets i (eqb-false i c.target e)) (old i)

  pub visit-family : Family n (visit c sets)
  unfolding visit
  visit-family = record {
    long = length-set sets c.target _ ∙ S.long;
    low = by_place (λ i x. x < 2 ^ 32) S.low (union-lt _ _);
  }

  -- nothing is lost
  pub visit-keeps : (i a : ℕ) → bit (set_at sets i) a ≡ true → bit (set_at (visit c sets) i) a ≡ true
  visit-keeps i a =
      by_place (λ j x. bit (set_at sets j) a ≡ true → bit x a ≡ true) (λ j e. e)
      (λ e. union_left (set_at sets c.target) (c.gives sets) a (bit-lt _ a (S.low c.target) e) e) i

  -- what the constraint gives is there
  pub visit-adds : (a : ℕ) → a < 32 → bit (c.gives sets) a ≡ true → bit (set_at (visit c sets) c.target) a ≡ true
  visit-adds a l e = rw (visited-here c sets long-enough) (union_right (set_at sets c.target) (c.gives sets) a l e)

  -- and nothing else
  pub visit-within : (P : ℕ → ℕ → Type 0) → Within P sets → ((a : ℕ) → bit (c.gives sets) a ≡ true → P c.target a) → Within P (visit c sets)
  visit-within P old new i a =
      by_place (λ j x. bit x a ≡ true → P j a) (λ j. old j a)
      (λ e. ⊎_elim (old c.target a) (new a) (union-either (set_at sets c.target) (c.gives sets) a (bit-lt _ a (union-lt _ _) e) e)) i

  -- it changes nothing or makes the total larger
  pub visit-grows : Grown sets (visit c sets)
  unfolding visit
  visit-grows = go (eqb new old) refl
    where
      old : ℕ
      old = set_at sets c.target

      new : ℕ
      new = union old (c.gives sets)

      go : (q : Bool) → eqb new old ≡ q → Grown sets (set sets c.target new)
      go true e = inl (ap (set sets c.target) (eqb-true new old e) ∙ set-get_or sets c.target 0)
      go false e =
          let more : old < new = union_more old (c.gives sets) (S.low c.target) (eqb-false new old e) in
          inr (omega (arith, total-set sets c.target new long-enough))

-- ---- passes

pub same_sets-still : (a b : List ℕ) → same_sets a b ≡ true → a ≡ b
unfolding same_sets
same_sets-still [] [] e = refl
same_sets-still [] (y ∷ b) e = true-false refl (sym e)
same_sets-still (x ∷ a) [] e = true-false refl (sym e)
same_sets-still (x ∷ a) (y ∷ b) e = go (eqb x y) refl (same_sets-still a b)
  where
    go : (t : Bool) → eqb x y ≡ t → (same_sets a b ≡ true → a ≡ b) → x ∷ a ≡ y ∷ b
    go true q rest = let h : x ≡ y = eqb-true x y q in let r : a ≡ b = rest (rw (q, same_sets) at e) in cc
    go false q rest = true-false refl (sym (rw (q, same_sets) at e))

pub same_sets-self : (a : List ℕ) → same_sets a a ≡ true
unfolding same_sets
same_sets-self [] = refl
same_sets-self (x ∷ a) = rw (eq-eqb x x refl, same_sets) (same_sets-self a)

-- what the constraints and the first sets must meet
pub record Fits (constraint : ℕ → Constraint) (count : ℕ) (first : List ℕ) : Type 0 where
  pub few : length first ≤ 64
  pub low : (i : ℕ) → set_at first i < 2 ^ 32
  pub target_low : (p : ℕ) → p < count → (constraint p).target < length first
  pub gives_low : (p : ℕ) → p < count → (sets : List ℕ) → Family (length first) sets → (constraint p).gives sets < 2 ^ 32

module _ {constraint : ℕ → Constraint} {count : ℕ} {first : List ℕ} (F : Fits constraint count first) where
  first-family : Family (length first) first
  first-family = record { long = refl; low = F.low }

  -- what every visit keeps, a pass keeps
  by-visits : (P : List ℕ → Type 0)
      → ((p : ℕ) → p < count → (sets : List ℕ) → Family (length first) sets → P sets → P (visit (constraint p) sets))
      → (n : ℕ) → n ≤ count → (sets : List ℕ) → Family (length first) sets × P sets
      → Family (length first) (visits constraint n sets) × P (visits constraint n sets)
  unfolding visits
  by-visits P keeps zero h sets s = s
  by-visits P keeps (suc n) h sets s =
      let (f, k) = by-visits P keeps n (omega arith) sets s in
      (visit-family (constraint n) f (F.target_low n (omega arith)), keeps n (omega arith) (visits constraint n sets) f k)

  -- so the least family has it
  pub by-least : (P : List ℕ → Type 0)
      → ((p : ℕ) → p < count → (sets : List ℕ) → Family (length first) sets → P sets → P (visit (constraint p) sets))
      → P first → Family (length first) (least constraint count first) × P (least constraint count first)
  unfolding least
  by-least P keeps k =
      kept same_sets (visits constraint count) (λ sets. Family (length first) sets × P sets) (by-visits P keeps count (omega arith)) (2 ^ 40) first
      (first-family, k)

  visits-grows : (n : ℕ) → n ≤ count → (sets : List ℕ) → Family (length first) sets
      → Family (length first) (visits constraint n sets) × Grown sets (visits constraint n sets)
  visits-grows n h sets s =
      by-visits (Grown sets) (λ p l x f g. grown-more sets x (visit (constraint p) x) g (visit-grows (constraint p) f (F.target_low p l))) n h sets
      (s, inl refl)

  pub growing : Grows same_sets (visits constraint count) (Family (length first)) total (2 ^ 40)
  growing = record {
    same_still = λ s k. same_sets-still (visits constraint count s) s;
    still_same = λ s k e. rw e (same_sets-self s);
    keeps = λ s k. (visits-grows count (omega arith) s k).0;
    grows = λ s k. (visits-grows count (omega arith) s k).1;
    below = λ s k. omega (arith, total-low s k.low, F.few, k.long);
  }

  -- a pass more at the start ends at the same family, and a family that a pass leaves is its own end
  pub least-again : (sets : List ℕ) → Family (length first) sets → least constraint count (visits constraint count sets) ≡ least constraint count sets
  unfolding least
  least-again sets s = again growing (2 ^ 40) sets s (omega arith)

  pub least_stays : (sets : List ℕ) → Family (length first) sets → visits constraint count sets ≡ sets → least constraint count sets ≡ sets
  unfolding least
  least_stays = stays growing (2 ^ 40)

  -- where a pass changes nothing, no visit does
  no-visit-adds : (sets : List ℕ) → Family (length first) sets → (n : ℕ) → n ≤ count → visits constraint n sets ≡ sets
      → (p : ℕ) → p < n → visit (constraint p) sets ≡ sets
  unfolding visits
  no-visit-adds sets s zero h e p l = absurd (omega arith)
  no-visit-adds sets s (suc n) h e p l =
      ⊎_elim
      (λ q. below_suc (λ m. visit (constraint m) sets ≡ sets) n p l (no-visit-adds sets s n (omega arith) q p) (ap (visit (constraint n)) (sym q) ∙ e))
      (λ m. absurd (shrinks m)) before.1
    where
      before : Family (length first) (visits constraint n sets) × Grown sets (visits constraint n sets)
      before = visits-grows n (omega arith) sets s

      shrinks : total sets < total (visits constraint n sets) → ⊥
      shrinks m =
          ⊎_elim (λ q. let z : ⊥ = omega (arith, ap total q, ap total e) in z) (λ q. let z : ⊥ = omega (arith, ap total e) in z)
          (visit-grows (constraint n) before.0 (F.target_low n (omega arith)))

  -- ---- the least family

  pub least-family : Family (length first) (least constraint count first)
  least-family = (by-least (λ _. Unit {0}) (λ p l sets f k. tt) tt).0

  -- it holds what it began with
  pub least-holds : (i a : ℕ) → bit (set_at first i) a ≡ true → bit (set_at (least constraint count first) i) a ≡ true
  least-holds i a e =
      (by-least (λ sets. bit (set_at sets i) a ≡ true) (λ p l sets f. visit-keeps (constraint p) f (F.target_low p l) i a) e).1

  -- it is closed: what a constraint gives is there
  pub least-closed : (p a : ℕ) → p < count → bit ((constraint p).gives (least constraint count first)) a ≡ true
      → bit (set_at (least constraint count first) (constraint p).target) a ≡ true
  least-closed p a l e =
      subst (λ (sets : List ℕ). bit (set_at sets (constraint p).target) a ≡ true) still
      (visit-adds (constraint p) least-family (F.target_low p l) a (bit-lt _ a (F.gives_low p l _ least-family) e) e)
    where
      end : visits constraint count (least constraint count first) ≡ least constraint count first
      end = unfold least in fixed growing (2 ^ 40) first first-family (omega arith)

      still : visit (constraint p) (least constraint count first) ≡ least constraint count first
      still = no-visit-adds (least constraint count first) least-family count (omega arith) end p l

  -- it is the smallest: what holds of its first members, and of what each constraint gives from such members, holds of every member
  pub least-within : (P : ℕ → ℕ → Type 0) → Within P first
      → ((p : ℕ) → p < count → (sets : List ℕ) → Family (length first) sets → Within P sets
      → (a : ℕ) → bit ((constraint p).gives sets) a ≡ true → P (constraint p).target a)
      → Within P (least constraint count first)
  least-within P start gives =
      (by-least (Within P) (λ p l sets f k. visit-within (constraint p) f (F.target_low p l) P k (gives p l sets f k)) start).1
