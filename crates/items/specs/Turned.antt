-- Passes from the last constraint to the first. Where every constraint gives no less from larger sets, they end at the same least family.
-- Assumes nothing.
use Rattle.std.specs.Prelude.{ℕ, ◌+◌, ◌-◌, ◌<◌, ◌≤◌, ◌≡◌, Bool, true, false, ◌||◌, List}
use Rattle.std.proofs.Common.{sym, ◌∙◌, subst, arith, ext_get_or}
use Rattle.sets.specs.Sets.{bit}
use Rattle.sets.proofs.SetsLaws.{same_set}
use Rattle.sets.proofs.Operations.{same_truth}
use Rattle.grammar.specs.Automaton.Fixpoint.{set_at, Constraint, visit, visits, least}
use Rattle.grammar.specs.Automaton.LeastLaws.{Family, Within, Fits, least-family, least-holds, least-closed, least-within}
use Rattle.items.specs.Passes.{Told, Passing, pass-begins, pass-ends, turn}

-- ---- families by their members

-- every member of every set of the one family is in the other
abbrev pub Inside : List ℕ → List ℕ → Type 0
Inside small large = Within (λ i a. bit (set_at large i) a ≡ true) small

pub same-family : {n : ℕ} {these those : List ℕ} → Family n these → Family n those → Inside these those → Inside those these → these ≡ those
same-family {these = these} {those} A B f g =
    ext_get_or 0 these those (A.long ∙ sym B.long)
    (λ i h. same_set (set_at these i) (set_at those i) (A.low i) (B.low i) (λ a l. same_truth _ _ (f i a) (g i a)))

-- larger sets are given no less
pub record Rising (constraint : ℕ → Constraint) (count : ℕ) : Type 0 where
  pub rises : (p : ℕ) → p < count → (small large : List ℕ) → Inside small large
      → (a : ℕ) → bit ((constraint p).gives small) a ≡ true → bit ((constraint p).gives large) a ≡ true

-- then a closed family that holds the first sets holds the least one
pub least-inside : {constraint : ℕ → Constraint} {count : ℕ} {first : List ℕ} → Fits constraint count first → Rising constraint count
    → (large : List ℕ) → Inside first large
    → ((p a : ℕ) → p < count → bit ((constraint p).gives large) a ≡ true → bit (set_at large (constraint p).target) a ≡ true)
    → Inside (least constraint count first) large
least-inside F R large start closed =
    least-within F (λ i a. bit (set_at large i) a ≡ true) start (λ p l sets f w a e. closed p a l (R.rises p l sets large w a e))

-- ---- the constraints below a number in the other order

abbrev pub turned : (ℕ → Constraint) → ℕ → ℕ → Constraint
turned constraint count p = constraint (count - 1 - p)

module _ {constraint : ℕ → Constraint} {count : ℕ} {first : List ℕ} (F : Fits constraint count first) where
  pub turned-fits : Fits (turned constraint count) count first
  turned-fits = record {
    few = F.few;
    low = F.low;
    target_low = λ p l. F.target_low (count - 1 - p) (omega arith);
    gives_low = λ p l. F.gives_low (count - 1 - p) (omega arith);
  }

  -- they have the same least family
  pub turned-least : Rising constraint count → least (turned constraint count) count first ≡ least constraint count first
  turned-least R =
      same-family (least-family turned-fits) (least-family F)
      (least-inside turned-fits (record { rises = λ p l. R.rises (count - 1 - p) (omega arith) }) (least constraint count first) (least-holds F)
      (λ p a l. least-closed F (count - 1 - p) a (omega arith)))
      (least-inside F R there (least-holds turned-fits) closed)
    where
      there : List ℕ
      there = least (turned constraint count) count first

      closed : (p a : ℕ) → p < count → bit ((constraint p).gives there) a ≡ true → bit (set_at there (constraint p).target) a ≡ true
      closed p a l =
          let back : count - 1 - (count - 1 - p) ≡ p = omega arith in
          subst (λ (q : ℕ). bit ((constraint q).gives there) a ≡ true → bit (set_at there (constraint q).target) a ≡ true) back
          (least-closed turned-fits (count - 1 - p) a (omega arith))

-- ---- a pass

-- the constraints from p on have been visited
pub record Descending (constraint : ℕ → Constraint) (count : ℕ) (first now : List ℕ) (changed : Bool) (p : ℕ) : Type 0 where
  pub within : p ≤ count
  pub passing : Passing (turned constraint count) count first now changed (count - p)

module _ {constraint : ℕ → Constraint} {count : ℕ} {first : List ℕ} (F : Fits constraint count first) where
  pub descent-begins : Descending constraint count first first false count
  descent-begins = record {
    within = omega arith;
    passing =
        let none : 0 ≡ count - count = omega arith in
        subst (Passing (turned constraint count) count first first false) none (pass-begins (turned-fits F));
  }

  pub descent-ends : {now : List ℕ} {changed : Bool} {p : ℕ} → Descending constraint count first now changed p → p ≤ 0
      → Told (visits (turned constraint count) count first) first now changed
  descent-ends D h = pass-ends (turned-fits F) D.passing (omega arith)

  module _ {now next : List ℕ} {changed r : Bool} {p : ℕ} (D : Descending constraint count first now changed p) (h : 0 < p)
      (T : Told (visit (constraint (p - 1)) now) now next r) where
    told : Told (visit (turned constraint count (count - p)) now) now next r
    told =
        let here : p - 1 ≡ count - 1 - (count - p) = omega (arith, D.within) in
        subst (λ (q : ℕ). Told (visit (constraint q) now) now next r) here T

    pub descent-turn : Descending constraint count first next (changed || r) (p - 1)
    descent-turn =
        let one : count - p + 1 ≡ count - (p - 1) = omega (arith, D.within) in
        record {
          within = omega (arith, D.within);
          passing =
              subst (Passing (turned constraint count) count first next (changed || r)) one
              (turn (turned-fits F) D.passing (omega (arith, D.within)) told);
        }
