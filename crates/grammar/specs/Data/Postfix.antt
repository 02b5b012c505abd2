-- Terms in postfix order: the steps of a stack machine, operands first, in the order in which the closing brackets of a term's text are met.
-- Evaluating a term, building it anew and interning it are one run over its steps, told apart by what the steps mean. Assumes nothing.
use Rattle.std.specs.Prelude.{ℕ, ◌≡◌, length}
use Rattle.std.proofs.Math.Path.{refl, ap}
use Rattle.std.proofs.Common.{sym, ◌∙◌, arith}
use mathlib.Core.List.{List, [], ◌∷◌, ◌++◌, append_assoc, append-nil}
use Rattle.std.proofs.Math.ListN.{length-append}
use Rattle.grammar.specs.Data.Term.{Operator, Term, number, leaf, both, pick, nodes, apply, choose, eval}

-- a node of a term, after its operands
pub data Step (A : Type 0) : Type 0 where
  push : ℕ → Step A
  load : A → Step A
  operate : Operator → Step A
  select : Step A

unfoldable pub postfix : {A : Type 0} → Term A → List (Step A)
postfix (number n) = push n ∷ []
postfix (leaf a) = load a ∷ []
postfix (both o s t) = postfix s ++ (postfix t ++ (operate o ∷ []))
postfix (pick c s t) = postfix c ++ (postfix s ++ (postfix t ++ (select ∷ [])))

-- what the nodes of a term give, in values of any kind
pub record Meaning (A B : Type 0) : Type 0 where
  pub of_number : ℕ → B
  pub of-leaf : A → B
  pub of_both : Operator → B → B → B
  pub of_pick : B → B → B → B

abbrev pub evaluating : {A : Type 0} → (A → ℕ) → Meaning A ℕ
evaluating ρ = record { of_number = λ n. n; of-leaf = ρ; of_both = apply; of_pick = choose }

abbrev pub building : {A : Type 0} → Meaning A (Term A)
building = record { of_number = number; of-leaf = leaf; of_both = both; of_pick = pick }

module _ {A B : Type 0} (M : Meaning A B) where
  unfoldable pub meaning : Term A → B
  meaning (number n) = M.of_number n
  meaning (leaf a) = M.of-leaf a
  meaning (both o s t) = M.of_both o (meaning s) (meaning t)
  meaning (pick c s t) = M.of_pick (meaning c) (meaning s) (meaning t)

  -- one step on a stack, top first; nothing is left where operands are missing
  unfoldable pub step : Step A → List B → List B
  step (push n) stack = M.of_number n ∷ stack
  step (load a) stack = M.of-leaf a ∷ stack
  step (operate o) [] = []
  step (operate o) (y ∷ []) = []
  step (operate o) (y ∷ x ∷ stack) = M.of_both o x y ∷ stack
  step select [] = []
  step select (y ∷ []) = []
  step select (y ∷ x ∷ []) = []
  step select (y ∷ x ∷ c ∷ stack) = M.of_pick c x y ∷ stack

  unfoldable pub run : List (Step A) → List B → List B
  run [] stack = stack
  run (s ∷ steps) stack = run steps (step s stack)

  -- a term's steps put its meaning on the stack
  pub run-postfix : (t : Term A) (steps : List (Step A)) (stack : List B) → run (postfix t ++ steps) stack ≡ run steps (meaning t ∷ stack)
  unfolding postfix meaning run step
  run-postfix (number n) steps stack = refl
  run-postfix (leaf a) steps stack = refl
  run-postfix (both o s t) steps stack =
      simp append_assoc (run-postfix s (postfix t ++ (operate o ∷ steps)) stack ∙ run-postfix t (operate o ∷ steps) (meaning s ∷ stack))
  run-postfix (pick c s t) steps stack =
      simp append_assoc (run-postfix c (postfix s ++ (postfix t ++ (select ∷ steps))) stack
      ∙ (run-postfix s (postfix t ++ (select ∷ steps)) (meaning c ∷ stack) ∙ run-postfix t (select ∷ steps) (meaning s ∷ meaning c ∷ stack)))

module _ {A : Type 0} where
  -- "Each bracket, and each number that is itself an expression, counts as one node"
  pub length-postfix : (t : Term A) → length (postfix t) ≡ nodes t
  unfolding postfix nodes
  length-postfix (number n) = refl
  length-postfix (leaf a) = refl
  length-postfix (both o s t) = simp length-append (omega (arith, length-postfix s, length-postfix t))
  length-postfix (pick c s t) = simp length-append (omega (arith, length-postfix c, length-postfix s, length-postfix t))

  pub meaning-eval : (ρ : A → ℕ) (t : Term A) → meaning (evaluating ρ) t ≡ eval t ρ
  unfolding meaning eval
  meaning-eval ρ (number n) = refl
  meaning-eval ρ (leaf a) = refl
  meaning-eval ρ (both o s t) = rw (meaning-eval ρ s, meaning-eval ρ t)
  meaning-eval ρ (pick c s t) = rw (meaning-eval ρ c, meaning-eval ρ s, meaning-eval ρ t)

  pub meaning-build : (t : Term A) → meaning building t ≡ t
  unfolding meaning
  meaning-build (number n) = refl
  meaning-build (leaf a) = refl
  meaning-build (both o s t) = rw (meaning-build s, meaning-build t)
  meaning-build (pick c s t) = rw (meaning-build c, meaning-build s, meaning-build t)

  -- running the steps on numbers is evaluating
  pub run-eval : (ρ : A → ℕ) (t : Term A) (steps : List (Step A)) (stack : List ℕ)
      → run (evaluating ρ) (postfix t ++ steps) stack ≡ run (evaluating ρ) steps (eval t ρ ∷ stack)
  run-eval ρ t steps stack = run-postfix (evaluating ρ) t steps stack ∙ rw (meaning-eval ρ t)

  -- the term on top of a stack; the number 0 on none
  unfoldable pub top_term : List (Term A) → Term A
  top_term [] = number 0
  top_term (t ∷ stack) = t

  -- the term that the steps build
  unfoldable pub term_of : List (Step A) → Term A
  term_of steps = top_term (run building steps [])

  pub term-postfix : (t : Term A) → term_of (postfix t) ≡ t
  unfolding term_of top_term run
  term-postfix t =
      ap (λ (steps : List (Step A)). top_term (run building steps [])) (sym (append-nil (postfix t)))
      ∙ (ap top_term (run-postfix building t [] []) ∙ meaning-build t)

-- opens every definition of this module
unfoldable pub opens : Unit {0}
unfolding postfix meaning step run top_term term_of
opens = tt
