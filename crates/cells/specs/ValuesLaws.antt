-- Laws of a run over a definition's steps with a stack of words in an array. Assumes nothing.
use Rattle.std.specs.Prelude.{◌≡◌, ℕ, zero, suc, ◌+◌, ◌-◌, ◌<◌, ◌≤◌, List, [], ◌∷◌, length, drop, replicate, ◌≢◌, slice_index, slice_set, refl}
use Rattle.std.proofs.Common.{zero-le, sym, ◌∙◌, append-nil, add-one, arith, get_or-set_same, get_or-set_other, drop-cons}
use Rattle.std.proofs.Math.Path.{ap}
use Rattle.std.proofs.Math.ListN.{length-set, drop_of_length-le}
use Rattle.grammar.specs.Limits.{MAX_NODES}
use Rattle.grammar.specs.Data.Term.{nodes, choose, eval, Leaves}
use Rattle.grammar.specs.Data.Postfix.{Step, push, load, operate, select, postfix, evaluating, step, run, length-postfix, run-eval}
use Rattle.grammar.specs.Data.Book.{Place, Expr}
use Rattle.book.specs.Held.{node_at}
use Rattle.formulas.specs.PostfixLaws.{takes, Ready, Fits, fits, ready-takes}
use Rattle.cells.specs.Values.{MayRead, step_value}

-- ---------------------------------------------------------------- choosing

pub choose-last : (c x y : ℕ) → c ≡ 0 → choose c x y ≡ y
unfolding choose
choose-last zero x y e = refl
choose-last (suc c) x y e = absurd (let z : ⊥ = omega arith in z)

pub choose-first : (c x y : ℕ) → (c ≢ 0) → choose c x y ≡ x
unfolding choose
choose-first zero x y n = absurd (n refl)
choose-first (suc c) x y n = refl

-- ---------------------------------------------------------------- the words of a stack, the top first

abbrev stack_words : List ℕ → ℕ → List ℕ
stack_words stack zero = []
stack_words stack (suc k) = slice_index stack k ∷ stack_words stack k

words-kept : (stack : List ℕ) (k i v : ℕ) → k ≤ i → stack_words (slice_set stack i v) k ≡ stack_words stack k
words-kept stack zero i v h = refl
words-kept stack (suc k) i v h = cc (get_or-set_other stack i k v 0 (λ e. omega arith), words-kept stack k i v (omega arith))

words-push : (stack : List ℕ) (k v : ℕ) → k < length stack → stack_words (slice_set stack k v) (k + 1) ≡ v ∷ stack_words stack k
words-push stack k v h = rw (add-one k) (cc (get_or-set_same stack k v 0 h, words-kept stack k k v (omega arith)))

-- a step takes its operands off and puts its value there
step_words : (ρ : Place → ℕ) (R : Place → Type 0) (stack : List ℕ) (top : ℕ) (s : Step Place) → Ready R top s
    → step (evaluating ρ) s (stack_words stack top) ≡ step_value ρ stack top s ∷ stack_words stack (top - takes s)
unfolding step
step_words ρ R stack top (push n) r = let e : top - 0 ≡ top = omega arith in rw e
step_words ρ R stack top (load a) r = let e : top - 0 ≡ top = omega arith in rw e
step_words ρ R stack zero (operate o) r = absurd (let z : ⊥ = omega arith in z)
step_words ρ R stack (suc zero) (operate o) r = absurd (let z : ⊥ = omega arith in z)
step_words ρ R stack (suc (suc k)) (operate o) r =
    let e : suc (suc k) - 2 ≡ k = omega arith in
    let d : suc (suc k) - 1 ≡ suc k = omega arith in
    rw (e, d)
step_words ρ R stack zero select r = absurd (let z : ⊥ = omega arith in z)
step_words ρ R stack (suc zero) select r = absurd (let z : ⊥ = omega arith in z)
step_words ρ R stack (suc (suc zero)) select r = absurd (let z : ⊥ = omega arith in z)
step_words ρ R stack (suc (suc (suc k))) select r =
    let e : suc (suc (suc k)) - 3 ≡ k = omega arith in
    let d : suc (suc (suc k)) - 2 ≡ suc k = omega arith in
    let b : suc (suc (suc k)) - 1 ≡ suc (suc k) = omega arith in
    rw (e, d, b)

-- ---------------------------------------------------------------- the only step of e, over any stack of no words

module _ {dot : ℕ} {e : Expr} (reads : Leaves (MayRead dot) e) (one : nodes e ≡ 1) where
  alone : postfix e ≡ node_at e 0 ∷ []
  alone =
      let short : length (postfix e) ≤ 1 = omega (arith, length-postfix e) in
      let none : drop 1 (postfix e) ≡ [] = drop_of_length-le (postfix e) short in
      drop-cons (postfix e) 0 select (omega (arith, length-postfix e)) ∙ ap (λ (steps : List (Step Place)). node_at e 0 ∷ steps) none

  pub only-ready : Ready (MayRead dot) 0 (node_at e 0)
  only-ready = (rw alone at (fits (MayRead dot) reads)).0

  pub only-value : (ρ : Place → ℕ) (stack : List ℕ) → step_value ρ stack 0 (node_at e 0) ≡ eval e ρ
  unfolding run
  only-value ρ stack =
      let goes : step (evaluating ρ) (node_at e 0) [] ≡ eval e ρ ∷ [] = rw (append-nil, alone) at (run-eval ρ e [] []) in
      cc (goes, step_words ρ (MayRead dot) stack 0 (node_at e 0) only-ready)

-- ---------------------------------------------------------------- a run after i steps of e

pub record Running (ρ : Place → ℕ) (dot : ℕ) (e : Expr) (stack : List ℕ) (top i : ℕ) : Type 0 where
  pub within : i ≤ nodes e
  pub long : length stack ≡ 16
  pub deep : top ≤ i
  pub goes : run (evaluating ρ) (drop i (postfix e)) (stack_words stack top) ≡ eval e ρ ∷ []
  pub ready : Fits (MayRead dot) top (drop i (postfix e))

pub running-start : (ρ : Place → ℕ) {dot : ℕ} {e : Expr} → Leaves (MayRead dot) e → Running ρ dot e (replicate 16 0) 0 0
unfolding run
running-start ρ {dot} {e} h = record {
  within = zero-le;
  long = refl;
  deep = zero-le;
  goes = rw append-nil at (run-eval ρ e [] []);
  ready = fits (MayRead dot) h;
}

module _ {ρ : Place → ℕ} {dot top i : ℕ} {e : Expr} {stack : List ℕ} (W : Running ρ dot e stack top i) where
  -- the value, where no steps are left
  pub running-end : i ≡ nodes e → slice_index stack 0 ≡ eval e ρ
  unfolding run
  running-end h = alone top (rw gone at W.goes)
    where
      gone : drop i (postfix e) ≡ []
      gone = let short : length (postfix e) ≤ i = omega (arith, length-postfix e) in drop_of_length-le (postfix e) short

      alone : (k : ℕ) → stack_words stack k ≡ eval e ρ ∷ [] → slice_index stack 0 ≡ eval e ρ
      alone zero q = cc
      alone (suc zero) q = cc
      alone (suc (suc k)) q = cc

  module _ (less : i < nodes e) where
    next : drop i (postfix e) ≡ node_at e i ∷ drop (i + 1) (postfix e)
    next = rw (add-one i) (drop-cons (postfix e) i select (omega (arith, length-postfix e)))

    here : Ready (MayRead dot) top (node_at e i) × Fits (MayRead dot) (top - takes (node_at e i) + 1) (drop (i + 1) (postfix e))
    here = rw next at W.ready

    pub running-ready : Ready (MayRead dot) top (node_at e i)
    running-ready = here.0

    pub running-takes : takes (node_at e i) ≤ top
    running-takes = ready-takes (MayRead dot) top (node_at e i) here.0

    -- one step more
    pub running-turn : {v k : ℕ} (s : Step Place) → nodes e ≤ MAX_NODES → s ≡ node_at e i → k ≡ takes s → v ≡ step_value ρ stack top s
        → Running ρ dot e (slice_set stack (top - k) v) (top - k + 1) (i + 1)
    unfolding run
    running-turn {v} {k} s small q t w =
        let room : top - k < length stack = omega (arith, W.long, W.deep) in
        let r : Ready (MayRead dot) top s = rw q here.0 in
        let pushed : v ∷ stack_words stack (top - k) ≡ step (evaluating ρ) s (stack_words stack top) =
        rw (w, t) (sym (step_words ρ (MayRead dot) stack top s r)) in
        record {
          within = omega arith;
          long = length-set stack (top - k) v ∙ W.long;
          deep = omega (arith, W.deep);
          goes =
              ap (run (evaluating ρ) (drop (i + 1) (postfix e))) (words-push stack (top - k) v room ∙ pushed) ∙ rw (next, ← q) at W.goes;
          ready = rw (t, q) here.1;
        }
