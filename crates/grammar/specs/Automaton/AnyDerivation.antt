-- FIRST by derivations that rewrite any nonterminal (01, "Items and transitions": "the terminals that can begin a string of symbols derived from β
-- followed by b"): `First`, which rewrites the leftmost one, says the same. Assumes nothing.
use Rattle.std.specs.Prelude.{ℕ, ◌<◌, ◌≡◌, refl, ◌↔◌, List, [], ◌∷◌, ◌++◌, length}
use Rattle.std.proofs.Common.{arith, sym, ap, ◌∙◌, append_assoc}
use Rattle.grammar.specs.Data.Symbol.{Symbol, terminal, nonterminal, Rule, left_of, right_of}
use Rattle.grammar.specs.Automaton.First.{First, past, here, expand}

module _ (G : List Rule) where
  -- one nonterminal of a string, wherever it stands, is rewritten by a rule
  pub data Rewrites : List Symbol → List Symbol → Type 0 where
    at_front : {P B : ℕ} {β γ : List Symbol} → P < length G → left_of G P ≡ B → γ ≡ right_of G P ++ β → Rewrites (nonterminal B ∷ β) γ
    behind : {X : Symbol} {α γ : List Symbol} → Rewrites α γ → Rewrites (X ∷ α) (X ∷ γ)

  -- `Derivation α γ`: the string γ is derived from α by zero or more such steps
  pub data Derivation : List Symbol → List Symbol → Type 0 where
    no_step : {α : List Symbol} → Derivation α α
    step : {α β γ : List Symbol} → Rewrites α β → Derivation β γ → Derivation α γ

  -- from the leftmost to any

  derivation : {β : List Symbol} {b a : ℕ} → First G β b a → (δ : List Symbol) × Derivation (β ++ (terminal b ∷ [])) (terminal a ∷ δ)
  derivation past = ([], no_step)
  derivation (here {β = β}) = (β ++ (terminal _ ∷ []), no_step)
  derivation (expand {P = P} {b = b} {β = β} p l f) =
      let (δ, d) = derivation f in
      (δ, step (at_front p l (append_assoc (right_of G P) β (terminal b ∷ []))) d)

  -- from any to the leftmost

  prefixed : (δ : List Symbol) {α γ : List Symbol} → Rewrites α γ → Rewrites (δ ++ α) (δ ++ γ)
  prefixed [] r = r
  prefixed (X ∷ δ) r = behind (prefixed δ r)

  entered : {P B b a : ℕ} {β γ : List Symbol} → P < length G → left_of G P ≡ B → γ ≡ right_of G P ++ β → First G γ b a → First G (nonterminal B ∷ β) b a
  entered p l e f = expand p l (rw e at f)

  -- a step before keeps what can begin
  before-step : {α γ : List Symbol} {b a : ℕ} → First G γ b a → Rewrites α γ → First G α b a
  before-step past (at_front p l e) = entered p l e past
  before-step here (at_front p l e) = entered p l e here
  before-step here (behind r) = here
  before-step (expand q m f) (at_front p l e) = entered p l e (expand q m f)
  before-step (expand {P = P} q m f) (behind {α = α} r) = expand q m (before-step {α = right_of G P ++ α} f (prefixed (right_of G P) r))

  before-all : {α δ : List Symbol} {a : ℕ} (c : ℕ) → Derivation α (terminal a ∷ δ) → First G α c a
  before-all c no_step = here
  before-all c (step r d) = before-step (before-all c d) r

  -- what follows the terminal b does not matter
  cut : {γ : List Symbol} {a b c : ℕ} → First G γ c a → (β : List Symbol) → γ ≡ β ++ (terminal b ∷ []) → First G β b a
  cut past [] e = absurd (let z : ◌≡◌ {A = ℕ} 0 1 = cc in omega arith)
  cut past (X ∷ β) e = absurd (let z : ◌≡◌ {A = ℕ} 0 1 = cc in omega arith)
  cut {a = a} {b = b} here [] e = let q : a ≡ b = cc in rw q past
  cut {a = a} here (X ∷ β) e = let q : X ≡ terminal a = cc in rw q here
  cut (expand p l f) [] e = absurd (let z : ◌≡◌ {A = ℕ} 0 1 = cc in omega arith)
  cut {b = b} (expand {P = P} {B = B} {β = γ} p l f) (X ∷ β) e =
      let q : X ≡ nonterminal B = cc in
      let r : γ ≡ β ++ (terminal b ∷ []) = cc in
      rw q (expand p l (cut f (right_of G P ++ β) (ap (λ rest. right_of G P ++ rest) r ∙ sym (append_assoc (right_of G P) β (terminal b ∷ [])))))

  -- a is in FIRST(βb) exactly if β followed by b derives a string that begins with a
  pub first_any : (β : List Symbol) (b a : ℕ) → First G β b a ↔ ((δ : List Symbol) × Derivation (β ++ (terminal b ∷ [])) (terminal a ∷ δ))
  first_any β b a = (derivation, λ h. cut (before-all 0 h.1) β refl)
