-- FIRST (01, "Items and transitions"): the terminals that can begin a string of symbols derived from β followed by the terminal b.
-- Expansion of the leftmost nonterminal is enough: what stands behind it may derive no token list at all. Rewriting any nonterminal gives the same
-- terminals (AnyDerivation.antt). Assumes nothing.
use Rattle.std.specs.Prelude.{ℕ, ◌<◌, ◌≡◌, List, [], ◌∷◌, ◌++◌, length}
use Rattle.grammar.specs.Data.Symbol.{Symbol, terminal, nonterminal, Rule, left_of, right_of}

module _ (G : List Rule) where
  -- `First β b a`: the terminal a is in FIRST(β b)
  pub data First : List Symbol → ℕ → ℕ → Type 0 where
    past : {b : ℕ} → First [] b b
    here : {a b : ℕ} {β : List Symbol} → First (terminal a ∷ β) b a
    expand : {P B a b : ℕ} {β : List Symbol} → P < length G → left_of G P ≡ B → First (right_of G P ++ β) b a → First (nonterminal B ∷ β) b a
