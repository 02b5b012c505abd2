-- Replacing a term's leaves as a run over its steps, and that each step of a term finds its operands. Assumes nothing.
use Rattle.std.specs.Prelude.{ℕ, ◌+◌, ◌-◌, ◌≤◌, ◌≡◌}
use Rattle.std.proofs.Math.Path.{refl, ap}
use Rattle.std.proofs.Common.{sym, ◌∙◌}
use mathlib.Core.List.{List, [], ◌∷◌, ◌++◌, append_assoc, append-nil}
use native.Mathlib.Omega.{arith}
use Rattle.grammar.specs.Data.Term.{Term, number, leaf, both, pick, replace, Leaves, in_number, in_leaf, in_both, in_pick}
use Rattle.grammar.specs.Data.Postfix.{Step, push, load, operate, select, postfix, Meaning, meaning, run, run-postfix}

-- interning is the third instance of a run: each leaf a gives the term f a
abbrev pub replacing : {A B : Type 0} → (A → Term B) → Meaning A (Term B)
replacing f = record { of_number = number; of-leaf = f; of_both = both; of_pick = pick }

module _ {A B : Type 0} (f : A → Term B) where
  meaning-replace : (t : Term A) → meaning (replacing f) t ≡ replace t f
  unfolding meaning replace
  meaning-replace (number n) = refl
  meaning-replace (leaf a) = refl
  meaning-replace (both o s t) = rw (meaning-replace s, meaning-replace t)
  meaning-replace (pick c s t) = rw (meaning-replace c, meaning-replace s, meaning-replace t)

  pub run-replace : (t : Term A) → run (replacing f) (postfix t) [] ≡ replace t f ∷ []
  unfolding run
  run-replace t =
      ap (λ (steps : List (Step A)). run (replacing f) steps []) (sym (append-nil (postfix t)))
      ∙ (run-postfix (replacing f) t [] [] ∙ rw (meaning-replace t))

-- how many operands a step takes
abbrev pub takes : {A : Type 0} → Step A → ℕ
takes (push n) = 0
takes (load a) = 0
takes (operate o) = 2
takes select = 3

module _ {A : Type 0} (R : A → Type 0) where
  -- a step finds its operands on a stack of a depth, and its leaf is in R
  abbrev pub Ready : ℕ → Step A → Type 0
  Ready depth (push n) = Unit {0}
  Ready depth (load a) = R a
  Ready depth (operate o) = 2 ≤ depth
  Ready depth select = 3 ≤ depth

  -- all steps do
  abbrev pub Fits : ℕ → List (Step A) → Type 0
  Fits depth [] = Unit {0}
  Fits depth (s ∷ steps) = Ready depth s × Fits (depth - takes s + 1) steps

  fits-postfix : {t : Term A} → Leaves R t → (depth : ℕ) (steps : List (Step A)) → Fits (depth + 1) steps → Fits depth (postfix t ++ steps)
  unfolding postfix
  fits-postfix in_number depth steps h = let e : depth - 0 + 1 ≡ depth + 1 = omega arith in (tt, rw e h)
  fits-postfix (in_leaf r) depth steps h = let e : depth - 0 + 1 ≡ depth + 1 = omega arith in (r, rw e h)
  fits-postfix (in_both {o = o} p q) depth steps h =
      let e : depth + 1 + 1 - 2 + 1 ≡ depth + 1 = omega arith in
      rw append_assoc (rw append_assoc (fits-postfix p depth _ (fits-postfix q (depth + 1) (operate o ∷ steps) (omega arith, rw e h))))
  fits-postfix (in_pick p q r) depth steps h =
      let e : depth + 1 + 1 + 1 - 3 + 1 ≡ depth + 1 = omega arith in
      rw append_assoc (rw append_assoc (rw append_assoc (fits-postfix p depth _ (fits-postfix q (depth + 1) _
      (fits-postfix r (depth + 1 + 1) (select ∷ steps) (omega arith, rw e h))))))

  pub fits : {t : Term A} → Leaves R t → Fits 0 (postfix t)
  fits {t} h = rw append-nil at (fits-postfix h 0 [] tt)

-- a step that is ready for R is so for what R gives
pub ready-map : {A : Type 0} {R S : A → Type 0} → ((a : A) → R a → S a) → (depth : ℕ) (s : Step A) → Ready R depth s → Ready S depth s
ready-map f depth (push n) h = tt
ready-map f depth (load a) h = f a h
ready-map f depth (operate o) h = h
ready-map f depth select h = h

pub ready-takes : {A : Type 0} (R : A → Type 0) (depth : ℕ) (s : Step A) → Ready R depth s → takes s ≤ depth
ready-takes R depth (push n) h = omega arith
ready-takes R depth (load a) h = omega arith
ready-takes R depth (operate o) h = h
ready-takes R depth select h = h
