-- Items of the states, closures, partial states and chains (01, "Items and transitions", "Partial states and chains").
-- An item is (rule P, dot D, one lookahead b). Assumes nothing.
use Rattle.std.specs.Prelude.{ℕ, ◌<◌, ◌≡◌, length}
use mathlib.Core.List.{List, [], ◌∷◌, Memᴰ as Mem}
use Rattle.grammar.specs.Data.Symbol.{Symbol, terminal, nonterminal, Rule, left_of, after}
use Rattle.grammar.specs.Data.Book.{Book, Kernel}
use Rattle.grammar.specs.Automaton.First.{First}

module _ (G : List Rule) where
  -- [A → α·Bβ, b] directly derives [B → ·γ, c] with c in FIRST(βb): the item (P, D, b) and the item (Q, 0, c)
  pub data Derives (P D b Q c : ℕ) : Type 0 where
    derives : {B : ℕ} {β : List Symbol} → after G P D ≡ nonterminal B ∷ β → Q < length G → left_of G Q ≡ B → First G β b c → Derives P D b Q c

  -- zero or more direct derivations reach an item with a after its dot or a complete one with lookahead a
  pub data Reaches (a : ℕ) : ℕ → ℕ → ℕ → Type 0 where
    before : {P D b : ℕ} {β : List Symbol} → after G P D ≡ terminal a ∷ β → Reaches a P D b
    complete : {P D b : ℕ} → after G P D ≡ [] → b ≡ a → Reaches a P D b
    further : {P D b Q c : ℕ} → Derives P D b Q c → Reaches a Q 0 c → Reaches a P D b

module _ (b : Book) where
  -- the item (P, D, a) stands in a kernel line of state S
  pub data KernelItem (S P D a : ℕ) : Type 0 where
    kernel_item : {k : Kernel} → Mem k b.kernels → k.state ≡ S → k.rule ≡ P → k.dot ≡ D → Mem a k.lookaheads → KernelItem S P D a

  -- the closure of a state: the smallest set with its kernel items and what its items directly derive
  pub data Closure (S : ℕ) : ℕ → ℕ → ℕ → Type 0 where
    kernel : {P D a : ℕ} → KernelItem S P D a → Closure S P D a
    close : {P D c Q a : ℕ} → Closure S P D c → Derives b.rules P D c Q a → Closure S Q 0 a

  -- the partial state (S, a)
  abbrev pub Partial : ℕ → ℕ → ℕ → ℕ → ℕ → Type 0
  Partial S a P D c = Closure S P D c × Reaches b.rules a P D c

  -- a chain of the partial state (S, a), by its last item: a list of its items, the first a kernel, each directly deriving the next
  -- (Formulas/ChainLists.antt has these lists, and that they give the same formulas)
  pub data Chain (S a : ℕ) : ℕ → ℕ → ℕ → Type 0 where
    one : {P D c : ℕ} → KernelItem S P D c → Reaches b.rules a P D c → Chain S a P D c
    longer : {P D c Q d : ℕ} → Chain S a P D c → Derives b.rules P D c Q d → Reaches b.rules a Q 0 d → Chain S a Q 0 d
