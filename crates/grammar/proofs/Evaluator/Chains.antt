-- The values of chains: the cell that is set at a partial state has the values that the rules' definitions give over the stack.
-- Assumes the premises of demand 3.
use Prim.Native.Nat.{ℕ, zero, suc}
use Rattle.std.proofs.Common.{arith, ◌∙◌}
use Rattle.std.specs.Prelude.{◌≡◌, List, [], ◌∷◌}
use Rattle.std.proofs.Math.Path.{refl, ap, sym}
use Rattle.grammar.specs.Data.Symbol.{Symbol, nonterminal, left_of, after}
use Rattle.grammar.specs.Data.Term.{eval}
use Rattle.grammar.specs.Data.TermLaws.{eval-replace, eval-same}
use Rattle.grammar.specs.Data.Book.{Place, own, at, val, Book, inherited_owner, inherited_expr}
use Rattle.grammar.specs.Automaton.Items.{derives, KernelItem, Chain, one, longer}
use Rattle.grammar.specs.Formulas.Formula.{Formula, becomes, own_below, gives, formula}
use Rattle.grammar.specs.Evaluator.Decorated.{Values, no_values, Result, place_value, inherited_from}
use Rattle.grammar.specs.Evaluator.Machine.{Tables, Frame, frame, inherited_at, leaf_value, formula_value, cell}
use Rattle.grammar.specs.Evaluator.Premises.{MayRead, reads_own, reads_at, reads_val, Premises}
use Rattle.grammar.specs.Automaton.KernelItems.{start_dot}
use Rattle.grammar.specs.Evaluator.PremisesLaws.{inherited-leaves, owner-apart}
use Rattle.grammar.specs.Evaluator.Chains.{stack_value, OnTop}

-- below the top cell, its values do not matter
inherited_at-below : (n : ℕ) (i j : Values) (st : List Frame) → inherited_at (suc n) i st ≡ inherited_at (suc n) j st
unfolding inherited_at
inherited_at-below n i j [] = refl
inherited_at-below n i j (frame R l c p ∷ st) = refl

module _ (b : Book) (T : Tables) where
  -- the values that lie D symbols down, the top cell being set, are i on the attributes of rule P's left side
  abbrev pub Below : ℕ → ℕ → ℕ → ℕ → List Frame → Values → Type 0
  Below P D S a st i = (K : ℕ) → inherited_owner b K ≡ left_of b.rules P → inherited_at D (cell T S a st) st K ≡ i K

module _ (b : Book) where
  becomes-value : {P D : ℕ} (st : List Frame) (f : ℕ → Formula) (i : Values)
      → ((K : ℕ) → inherited_owner b K ≡ left_of b.rules P → eval (f K) (leaf_value st) ≡ i K)
      → (a : Place) → MayRead b P (suc D) a → eval (becomes D f a) (leaf_value st) ≡ stack_value D i st a
  unfolding becomes stack_value eval leaf_value
  becomes-value st f i h (own K) (reads_own e) = h K e
  becomes-value st f i h (at I K) (reads_at p q) = refl
  becomes-value st f i h (val I) (reads_val p q) = refl

  stack-place : {P D : ℕ} (st : List Frame) (j i : Values) (cs : List Result) → ((K : ℕ) → inherited_owner b K ≡ left_of b.rules P → j K ≡ i K)
      → OnTop D st cs → (a : Place) → MayRead b P (suc D) a → stack_value D j st a ≡ place_value i cs a
  unfolding stack_value place_value
  stack-place st j i cs h g (own K) (reads_own e) = h K e
  stack-place st j i cs h g (at I K) (reads_at p q) = rw (g I p (omega arith))
  stack-place st j i cs h g (val I) (reads_val p q) = rw (g I p (omega arith))

module _ (b : Book) (T : Tables) (H : Premises b T) where
  -- the cell has the value of the chain's formula
  cell-formula : {S a P D c B : ℕ} {β : List Symbol} (K : ℕ) (chain : Chain b S a P D c) → after b.rules P D ≡ nonterminal B ∷ β → inherited_owner b K ≡ B
      → (st : List Frame) → cell T S a st K ≡ eval (formula b chain K) (leaf_value st)
  unfolding cell formula_value
  cell-formula {S} {a} {P} {D} {c} {B} {β} K chain h o st = ap (formula_value st) (H.formula_there S a P D c K β chain (rw o h))

  -- in a chain of one item, own reads the values D symbols down
  one-own : {S P c : ℕ} (a D : ℕ) → KernelItem b S P D c → (st : List Frame) (K : ℕ) → inherited_owner b K ≡ left_of b.rules P
      → eval (own_below D K) (leaf_value st) ≡ inherited_at D (cell T S a st) st K
  unfolding eval own_below leaf_value
  one-own a zero h st K o = absurd (owner-apart b T H K (rw (start_dot H.kernel-rules h) at o))
  one-own {S} a (suc D) h st K o = ap (λ g. g K) (inherited_at-below D no_values (cell T S a st) st)

  -- a chain's formula has the value of the last item's definition, own being read D symbols down where the top cell is just set
  formula-value : {S a P D c : ℕ} (chain : Chain b S a P D c) (K : ℕ) (st : List Frame)
      → eval (formula b chain K) (leaf_value st) ≡ eval (inherited_expr b P (suc D) K) (stack_value D (inherited_at D (cell T S a st) st) st)
  unfolding formula gives inherited_at
  formula-value {a = a} (one {P = P} {D = D} h r) K st =
      eval-replace (inherited_expr b P (suc D) K) _ _ ∙ eval-same (inherited-leaves b T H P (suc D) K) _ _ (becomes-value b st _ _ (one-own a D h st))
  formula-value {a = a} (longer {Q = Q} chain (derives h p e f) r) K st =
      eval-replace (inherited_expr b Q 1 K) _ _
      ∙ eval-same (inherited-leaves b T H Q 1 K) _ _ (becomes-value b st _ _ (λ J o. sym (cell-formula J chain h (o ∙ e) st)))

  -- so every item of the partial state says what stands in the cell, and no formula need be kept
  pub cell-value : {S a P D c B : ℕ} {β : List Symbol} (K : ℕ) (chain : Chain b S a P D c) → after b.rules P D ≡ nonterminal B ∷ β → inherited_owner b K ≡ B
      → (st : List Frame) → cell T S a st K ≡ eval (inherited_expr b P (suc D) K) (stack_value D (inherited_at D (cell T S a st) st) st)
  cell-value K chain h o st = cell-formula K chain h o st ∙ formula-value chain K st

  -- the cell has the values that the rule gives the symbol after the dot
  pub cell-inherits : {S a P D c B : ℕ} {β : List Symbol} (K : ℕ) (chain : Chain b S a P D c) → after b.rules P D ≡ nonterminal B ∷ β → inherited_owner b K ≡ B
      → (st : List Frame) (i : Values) (cs : List Result) → Below b T P D S a st i → OnTop D st cs → cell T S a st K ≡ inherited_from b P (suc D) i cs K
  unfolding inherited_from
  cell-inherits {P = P} {D = D} K chain h o st i cs w g =
      cell-value K chain h o st ∙ eval-same (inherited-leaves b T H P (suc D) K) _ _ (stack-place b st _ i cs w g)
