-- Passes over the places 0, 1, .., n - 1, one visit each, until a size stays the same. Where each visit changes nothing or makes a bounded size larger,
-- the passes end where no visit changes anything. The one-formula check and the setting of a cell are such passes. Assumes nothing.
use Prim.Native.Nat.{ℕ, zero, suc, ◌≤◌, ◌<◌, ◌^◌}
use Rattle.std.proofs.Common.{arith, sym, ◌∙◌, inr, eqb-true, eq-eqb}
use Rattle.std.proofs.Math.Decide.{ℕ_discrete}
use Rattle.std.specs.Prelude.{◌≡◌, ◌⊎◌}
use Rattle.std.proofs.Math.Path.{refl, ap}
use Rattle.std.proofs.Math.Logic.{inl}
use Rattle.std.proofs.Math.Dec.{eqb}
use Rattle.grammar.specs.Automaton.Fixpoint.{iterate}
use Rattle.grammar.specs.Automaton.FixpointLaws.{Grows, kept, stays, fixed, again}

module _ {S : Type 0} (visit : ℕ → S → S) where
  -- the places below a number, one after the other
  unfoldable pub visits : ℕ → S → S
  visits zero s = s
  visits (suc d) s = visit d (visits d s)

  -- passes over n places until the size stays
  unfoldable pub passes : (S → ℕ) → ℕ → S → S
  passes size n s = iterate (λ t u. eqb (size t) (size u)) (visits n) (2 ^ 40) s

-- opens every definition of this module
unfoldable pub opens : Unit {0}
unfolding visits passes
opens = tt

-- ---------------------------------------------------------------- changes nothing, or makes larger

-- t is s, or is larger
abbrev pub Larger : {S : Type 0} → (S → ℕ) → S → S → Type 0
Larger size s t = (t ≡ s) ⊎ (size s < size t)

module _ {S : Type 0} (size : S → ℕ) where
  larger-le : {s t : S} → Larger size s t → size s ≤ size t
  larger-le (inl e) = rw e (omega arith)
  larger-le (inr l) = omega arith

  larger-trans : {s t u : S} → Larger size s t → Larger size t u → Larger size s u
  larger-trans (inl e) (inl f) = inl (f ∙ e)
  larger-trans (inl e) (inr m) = inr (rw e at m)
  larger-trans (inr l) (inl f) = inr (rw f l)
  larger-trans (inr l) (inr m) = inr (omega arith)

  larger-between : {s t u : S} → Larger size s t → Larger size t u → u ≡ s → t ≡ s
  larger-between (inl e) h p = e
  larger-between (inr l) h p = let m = rw p at (larger-le h) in absurd (omega arith)

  larger-same : {s t : S} → Larger size s t → size t ≡ size s → t ≡ s
  larger-same (inl e) q = e
  larger-same (inr l) q = absurd (omega arith)

-- ---------------------------------------------------------------- a pass

-- what each visit keeps
module _ {S : Type 0} (visit : ℕ → S → S) (Q : S → Type 0) where
  abbrev pub Keeps : ℕ → Type 0
  Keeps n = (d : ℕ) → d < n → (s : S) → Q s → Q (visit d s)

  pub visits-keep : (n : ℕ) → Keeps n → (s : S) → Q s → Q (visits visit n s)
  unfolding visits
  visits-keep zero keep s q = q
  visits-keep (suc n) keep s q = keep n (omega arith) (visits visit n s) (visits-keep n (λ d l. keep d (omega arith)) s q)

  pub passes-keep : (size : S → ℕ) (n : ℕ) → Keeps n → (s : S) → Q s → Q (passes visit size n s)
  unfolding passes
  passes-keep size n keep s q = kept (λ t u. eqb (size t) (size u)) (visits visit n) Q (visits-keep n keep) (2 ^ 40) s q

-- visits that do the same at every place make the same passes
module _ {S : Type 0} (visit other : ℕ → S → S) where
  pub visits-same : (n : ℕ) → ((d : ℕ) → d < n → (s : S) → visit d s ≡ other d s) → (s : S) → visits visit n s ≡ visits other n s
  unfolding visits
  visits-same zero same s = refl
  visits-same (suc n) same s = same n (omega arith) (visits visit n s) ∙ ap (other n) (visits-same n (λ d l. same d (omega arith)) s)

  pub passes_same : (size : S → ℕ) (n : ℕ) → ((d : ℕ) → d < n → (s : S) → visit d s ≡ other d s) → (s : S) → passes visit size n s ≡ passes other size n s
  unfolding passes
  passes_same size n same s = ap (λ step. iterate (λ t u. eqb (size t) (size u)) step (2 ^ 40) s) (λ i t. visits-same n same t i)

-- what is asked of the visits of n places: `ok` is kept, and a change makes the size larger, up to a bound
pub record Growing {S : Type 0} (visit : ℕ → S → S) (n : ℕ) (ok : S → Type 0) (size : S → ℕ) : Type 0 where
  pub keeps : Keeps visit ok n
  pub grows : (d : ℕ) → d < n → (s : S) → ok s → Larger size s (visit d s)
  pub below : (s : S) → ok s → size s ≤ 2 ^ 40

module _ {S : Type 0} {visit : ℕ → S → S} {n : ℕ} {ok : S → Type 0} {size : S → ℕ} (G : Growing visit n ok size) where
  visits-ok : (m : ℕ) → m ≤ n → (s : S) → ok s → ok (visits visit m s)
  visits-ok m h = visits-keep visit ok m (λ d l. G.keeps d (omega arith))

  visits-grow : (m : ℕ) → m ≤ n → (s : S) → ok s → Larger size s (visits visit m s)
  unfolding visits
  visits-grow zero h s k = inl refl
  visits-grow (suc m) h s k =
      larger-trans size (visits-grow m (omega arith) s k) (G.grows m (omega arith) (visits visit m s) (visits-ok m (omega arith) s k))

  -- a pass that changes nothing has no visit that changes anything: those before a place do not, and so that place does not
  before-rest : (m : ℕ) → suc m ≤ n → (s : S) → ok s → visits visit (suc m) s ≡ s → visits visit m s ≡ s
  unfolding visits
  before-rest m h s k e =
      larger-between size (visits-grow m (omega arith) s k) (G.grows m (omega arith) (visits visit m s) (visits-ok m (omega arith) s k)) e

  visits-rest : (m : ℕ) → m ≤ n → (s : S) → ok s → visits visit m s ≡ s → (d : ℕ) → d < m → visit d s ≡ s
  unfolding visits
  visits-rest zero h s k e d l = absurd (omega arith)
  visits-rest (suc m) h s k e d l =
      let still : visits visit m s ≡ s = before-rest m h s k e in
      by (ℕ_discrete d m) still (visits-rest m (omega arith) s k still d)
    where
      by : Dec (d ≡ m) → visits visit m s ≡ s → (d < m → visit d s ≡ s) → visit d s ≡ s
      by (yes p) still below = rw p (ap (visit m) (sym still) ∙ e)
      by (no q) still below = below (omega arith)

  -- ---------------------------------------------------------------- the passes

  passes-grow : Grows (λ t u. eqb (size t) (size u)) (visits visit n) ok size (2 ^ 40)
  passes-grow = record {
    same_still = λ s k e. larger-same size (visits-grow n (omega arith) s k) (eqb-true _ _ e);
    still_same = λ s k e. eq-eqb _ _ (ap size e);
    keeps = visits-ok n (omega arith);
    grows = visits-grow n (omega arith);
    below = G.below;
  }

  -- at the end no visit changes anything
  pub passes-rest : (s : S) → ok s → (d : ℕ) → d < n → visit d (passes visit size n s) ≡ passes visit size n s
  unfolding passes
  passes-rest s k =
      visits-rest n (omega arith) (passes visit size n s) (passes-keep visit ok size n G.keeps s k) (fixed passes-grow (2 ^ 40) s k (omega arith))

  -- for a loop: one pass more at the start changes nothing about the end, and a pass that leaves the size is at it
  pub passes-turn : (s : S) → ok s → passes visit size n (visits visit n s) ≡ passes visit size n s
  unfolding passes
  passes-turn s k = again passes-grow (2 ^ 40) s k (omega arith)

  pub passes-end : (s : S) → ok s → size (visits visit n s) ≡ size s → passes visit size n s ≡ s
  unfolding passes
  passes-end s k e = stays passes-grow (2 ^ 40) s k (larger-same size (visits-grow n (omega arith) s k) e)
