-- FIRST(β b) taken apart: what can begin β whatever follows it, and b where β derives the empty string.
-- Assumes nothing.
use Rattle.std.specs.Prelude.{ℕ, ◌<◌, ◌≡◌, refl, ◌⊎◌, List, [], ◌∷◌, ◌++◌, length}
use Rattle.std.proofs.Common.{inl, inr, append-nil}
use Rattle.grammar.specs.Data.Symbol.{Symbol, terminal, nonterminal, Rule, left_of, right_of}
use Rattle.grammar.specs.Automaton.First.{First, past, here, expand}

module _ (G : List Rule) where
  -- every symbol derives the empty string
  pub data Null : List Symbol → Type 0 where
    null_end : Null []
    null-rule : {P B : ℕ} {β : List Symbol} → P < length G → left_of G P ≡ B → Null (right_of G P) → Null β → Null (nonterminal B ∷ β)

  -- the terminal can begin the string, whatever follows it
  pub data Starts : List Symbol → ℕ → Type 0 where
    at_once : {a : ℕ} {β : List Symbol} → Starts (terminal a ∷ β) a
    inside : {P B a : ℕ} {β : List Symbol} → P < length G → left_of G P ≡ B → Starts (right_of G P) a → Starts (nonterminal B ∷ β) a
    beyond : {P B a : ℕ} {β : List Symbol} → P < length G → left_of G P ≡ B → Null (right_of G P) → Starts β a → Starts (nonterminal B ∷ β) a

  null-split : (γ : List Symbol) {β : List Symbol} → Null (γ ++ β) → Null γ × Null β
  null-split [] n = (null_end, n)
  null-split (X ∷ γ) (null-rule p e n m) = let (u, v) = null-split γ m in (null-rule p e n u, v)

  starts-split : (γ : List Symbol) {β : List Symbol} {a : ℕ} → Starts (γ ++ β) a → Starts γ a ⊎ (Null γ × Starts β a)
  starts-split [] s = inr (null_end, s)
  starts-split (X ∷ γ) at_once = inl at_once
  starts-split (X ∷ γ) (inside p e s) = inl (inside p e s)
  starts-split (X ∷ γ) (beyond p e n s) = by p e n (starts-split γ s)
    where
      by : {P B a : ℕ} {γ β : List Symbol} → P < length G → left_of G P ≡ B → Null (right_of G P) → Starts γ a ⊎ (Null γ × Starts β a)
          → Starts (nonterminal B ∷ γ) a ⊎ (Null (nonterminal B ∷ γ) × Starts β a)
      by p e n (inl s) = inl (beyond p e n s)
      by p e n (inr s) = inr (null-rule p e n s.0, s.1)

  pub first-shape : {γ : List Symbol} {a b : ℕ} → First G γ b a → Starts γ a ⊎ ((a ≡ b) × Null γ)
  first-shape past = inr (refl, null_end)
  first-shape here = inl at_once
  first-shape (expand {P = P} p e f) = by P p e (first-shape f)
    where
      within : {P B a : ℕ} {β : List Symbol} → P < length G → left_of G P ≡ B → Starts (right_of G P) a ⊎ (Null (right_of G P) × Starts β a)
          → Starts (nonterminal B ∷ β) a
      within p e (inl s) = inside p e s
      within p e (inr s) = beyond p e s.0 s.1

      by : (P : ℕ) {B a b : ℕ} {β : List Symbol} → P < length G → left_of G P ≡ B
          → Starts (right_of G P ++ β) a ⊎ ((a ≡ b) × Null (right_of G P ++ β)) → Starts (nonterminal B ∷ β) a ⊎ ((a ≡ b) × Null (nonterminal B ∷ β))
      by P p e (inl s) = inl (within p e (starts-split (right_of G P) s))
      by P p e (inr s) = let (n, m) = null-split (right_of G P) s.1 in inr (s.0, null-rule p e n m)

  pub null-before : {γ β : List Symbol} {a b : ℕ} → Null γ → First G β b a → First G (γ ++ β) b a
  null-before null_end f = f
  null-before (null-rule p e n m) f = expand p e (null-before n (null-before m f))

  starts-before : {γ : List Symbol} {a : ℕ} → Starts γ a → (β : List Symbol) (b : ℕ) → First G (γ ++ β) b a
  starts-before at_once β b = here
  starts-before (inside p e s) β b = expand p e (starts-before s _ b)
  starts-before (beyond p e n s) β b = expand p e (null-before n (starts-before s β b))

  pub starts_first : {γ : List Symbol} {a : ℕ} → Starts γ a → (b : ℕ) → First G γ b a
  starts_first s b = rw append-nil at (starts-before s [] b)

  pub null-first : {γ : List Symbol} → Null γ → (b : ℕ) → First G γ b b
  null-first n b = rw append-nil at (null-before {b = b} n past)
