-- What an item reaches, taken apart by the symbols after its dot: what is reached before they end, and its lookahead where they may be empty.
-- This is not FIRST: a nonterminal whose rest begins nothing directly derives no item, so that nothing is reached through it. Assumes nothing.
use Rattle.std.specs.Prelude.{ℕ, ◌<◌, ◌≡◌, refl, ◌⊎◌, List, ◌∷◌, length}
use Rattle.std.proofs.Common.{sym, ◌∙◌, inl, inr, ⊎_elim}
use Rattle.grammar.specs.Data.Symbol.{Symbol, terminal, nonterminal, Rule, left_of, right_of, after}
use Rattle.grammar.specs.Automaton.First.{First}
use Rattle.grammar.specs.Automaton.FirstLaws.{Null, null_end, null-rule, Starts, first-shape, starts_first, null-first}
use Rattle.grammar.specs.Automaton.Items.{derives, Reaches, before, complete, further}

module _ (G : List Rule) where
  -- what items with these symbols after their dots reach, whatever their lookaheads
  pub data Strict : List Symbol → ℕ → Type 0 where
    strict_once : {a : ℕ} {β : List Symbol} → Strict (terminal a ∷ β) a
    strict_inside : {P B a b c : ℕ} {β : List Symbol} → First G β b c → P < length G → left_of G P ≡ B → Strict (right_of G P) a
        → Strict (nonterminal B ∷ β) a
    strict_beyond : {P B a : ℕ} {β : List Symbol} → P < length G → left_of G P ≡ B → Null G (right_of G P) → Starts G β a
        → Strict (nonterminal B ∷ β) a

  pub reaches-shape : {a P D b : ℕ} → Reaches G a P D b → Strict (after G P D) a ⊎ ((a ≡ b) × Null G (after G P D))
  reaches-shape (before h) = rw h (inl strict_once)
  reaches-shape (complete h e) = rw h (inr (sym e, null_end))
  reaches-shape (further (derives h q e f) r) = rw h (through q e f (first-shape G f) (reaches-shape r))
    where
      through : {Q B a b c : ℕ} {β : List Symbol} → Q < length G → left_of G Q ≡ B → First G β b c → Starts G β c ⊎ ((c ≡ b) × Null G β)
          → Strict (right_of G Q) a ⊎ ((a ≡ c) × Null G (right_of G Q)) → Strict (nonterminal B ∷ β) a ⊎ ((a ≡ b) × Null G (nonterminal B ∷ β))
      through q e f g (inl s) = inl (strict_inside f q e s)
      through q e f (inl g) (inr n) = inl (rw n.0 (strict_beyond q e n.1 g))
      through q e f (inr g) (inr n) = inr (n.0 ∙ g.0, null-rule q e n.1 g.1)

  -- where something follows β with one terminal behind it, so it does with another
  follows : {β : List Symbol} {c d : ℕ} → First G β d c → (b : ℕ) → (e : ℕ) × First G β b e
  follows {c = c} f b = ⊎_elim (λ s. (c, starts_first G s b)) (λ n. (b, null-first G n.1 b)) (first-shape G f)

  pub null-reaches : {γ : List Symbol} → Null G γ → (b P D : ℕ) → after G P D ≡ γ → Reaches G b P D b
  null-reaches null_end b P D h = complete h refl
  null-reaches (null-rule {P = Q} q e n m) b P D h = further (derives h q e (null-first G m b)) (null-reaches n b Q 0 refl)

  pub strict-reaches : {γ : List Symbol} {a : ℕ} → Strict γ a → (b P D : ℕ) → after G P D ≡ γ → Reaches G a P D b
  strict-reaches strict_once b P D h = before h
  strict-reaches {a = a} (strict_beyond {P = Q} q e n s) b P D h = further (derives h q e (starts_first G s b)) (null-reaches n a Q 0 refl)
  strict-reaches (strict_inside {P = Q} f q e s) b P D h = let (c, g) = follows f b in further (derives h q e g) (strict-reaches s c Q 0 refl)
