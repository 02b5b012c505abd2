-- Formulas of chains and the one-formula condition (01, "Partial states and chains"). An offset is at most 0 and is kept as its absolute value:
-- how many symbols below the top. Assumes nothing.
use Rattle.std.specs.Prelude.{ℕ, suc, ◌-◌, ◌≡◌, List, ◌∷◌}
use Rattle.grammar.specs.Data.Symbol.{Symbol, nonterminal, after}
use Rattle.grammar.specs.Data.Term.{Term, leaf, replace}
use Rattle.grammar.specs.Data.Book.{Place, own, at, val, Book, inherited_owner, inherited_expr}
use Rattle.grammar.specs.Automaton.Items.{Chain, one, longer}

pub data Stack : Type 0 where
  inherited synthesized : Stack
  deriving Discrete as Stack-discrete

-- what a leaf reads there: an attribute, or the token's value in place of one
pub data Part : Type 0 where
  attribute : ℕ → Part
  token_value : Part
  deriving Discrete as Part-discrete

-- "A formula leaf names a stack, and with it an offset and an attribute"
pub data Leaf : Type 0 where
  slot : Stack → ℕ → Part → Leaf
  deriving Discrete as Leaf-discrete

abbrev pub Formula : Type 0
Formula = Term Leaf

-- what the leaves of a definition become where the dot is D, if own K becomes f K: at J and val J become (synthesized stack, offset J-D)
unfoldable pub becomes : ℕ → (ℕ → Formula) → Place → Formula
becomes D f (own K) = f K
becomes D f (at J K) = leaf (slot synthesized (D - J) (attribute K))
becomes D f (val J) = leaf (slot synthesized (D - J) token_value)

-- "In a chain of one item with dot D, own becomes (inherited stack, offset -D, attribute)"
unfoldable pub own_below : ℕ → ℕ → Formula
own_below D K = leaf (slot inherited D (attribute K))

module _ (b : Book) where
  -- the formula that the item (P, D) gives an inherited attribute K of its next symbol, where own of rule P becomes f
  unfoldable pub gives : ℕ → ℕ → (ℕ → Formula) → ℕ → Formula
  gives P D f K = replace (inherited_expr b P (suc D) K) (becomes D f)

  -- a chain's formula for an inherited attribute K of the last item's next symbol: in a longer chain own becomes the formula of the chain
  -- without its last item
  unfoldable pub formula : {S a P D c : ℕ} → Chain b S a P D c → ℕ → Formula
  formula (one {P = P} {D = D} h r) K = gives P D (own_below D) K
  formula (longer {Q = Q} chain e r) K = gives Q 0 (formula chain) K

  -- "LR-attributed: all chains of one partial state that end before the same nonterminal give each of its attributes the same formula"
  abbrev pub LrAttributed : Type 0
  LrAttributed = (S a P D c P' D' c' B K : ℕ) (β β' : List Symbol) (chain : Chain b S a P D c) (chain' : Chain b S a P' D' c')
      → after b.rules P D ≡ nonterminal B ∷ β → after b.rules P' D' ≡ nonterminal B ∷ β' → inherited_owner b K ≡ B → formula chain K ≡ formula chain' K

-- opens every definition of this module
unfoldable pub opens : Unit {0}
unfolding becomes own_below gives
opens = tt
