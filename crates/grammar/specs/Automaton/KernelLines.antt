-- The kernel lines of a state, as a part of all kernel lines.
-- Assumes nothing.
use Rattle.std.specs.Prelude.{ℕ, ◌≡◌, refl, Bool, true, false, eqb}
use mathlib.Core.List.Memᴰ.{head as in_head}
use mathlib.Core.List.Memᴰ.{not-nil as not-in-nil}
use mathlib.Core.List.Memᴰ.{tail as in_Tail}
use mathlib.Core.List.{List, [], ◌∷◌, Memᴰ as Mem}
use Rattle.std.proofs.Common.{eqb-true, eq-eqb}
use Rattle.grammar.specs.Data.Book.{Kernel}
use Rattle.grammar.specs.Automaton.ClosureSets.{kernels_in}
use Rattle.grammar.specs.Automaton.WellNamed.{Distinct, none, next}

-- a line of the list that is of state S
pub record LineOf (ks : List Kernel) (S : ℕ) (k : Kernel) : Type 0 where
  pub there : Mem k ks
  pub of_state : k.state ≡ S

pub line_of : {ks : List Kernel} {S : ℕ} {k : Kernel} → Mem k (kernels_in ks S) → LineOf ks S k
unfolding kernels_in
line_of {ks = []} m = absurd (not-in-nil m)
line_of {ks = l ∷ ks} {S} {k} m = go (λ n. further (line_of n)) (eqb l.state S) refl m
  where
    further : LineOf ks S k → LineOf (l ∷ ks) S k
    further h = record { there = in_Tail h.there; of_state = h.of_state }

    go : (Mem k (kernels_in ks S) → LineOf (l ∷ ks) S k) → (t : Bool) → eqb l.state S ≡ t
        → Mem k (elim t [ true ↦ l ∷ kernels_in ks S | false ↦ kernels_in ks S ]) → LineOf (l ∷ ks) S k
    go below true e (in_head q) = record { there = in_head q; of_state = rw q (eqb-true l.state S e) }
    go below true e (in_Tail m) = below m
    go below false e m = below m

pub in-state : {k : Kernel} {ks : List Kernel} {S : ℕ} → Mem k ks → k.state ≡ S → Mem k (kernels_in ks S)
unfolding kernels_in
in-state {S = S} (in_head {x = l} q) e = rw (eq-eqb l.state S (rw q at e), kernels_in) (in_head q)
in-state {k = k} {S = S} (in_Tail {x = l} {xs = ks} m) e = go (eqb l.state S) (in-state m e)
  where
    go : (t : Bool) → Mem k (kernels_in ks S) → Mem k (elim t [ true ↦ l ∷ kernels_in ks S | false ↦ kernels_in ks S ])
    go true m = in_Tail m
    go false m = m

pub distinct-lines : {Same : Kernel → Kernel → Type 0} {ks : List Kernel} (S : ℕ) → Distinct Same ks → Distinct Same (kernels_in ks S)
unfolding kernels_in
distinct-lines S none = none
distinct-lines {Same} S (next {x = k} {l = ks} apart d) = go (eqb k.state S) (distinct-lines S d)
  where
    there : (l : Kernel) → Mem l (kernels_in ks S) → Mem l ks
    there l m = let q : LineOf ks S l = line_of m in q.there

    go : (t : Bool) → Distinct Same (kernels_in ks S) → Distinct Same (elim t [ true ↦ k ∷ kernels_in ks S | false ↦ kernels_in ks S ])
    go true d = next (λ l m. apart l (there l m)) d
    go false d = d
