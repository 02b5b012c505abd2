-- Chains as lists (01, "Partial states and chains": "A chain is a list of its items, the first a kernel, each directly deriving the next"): they are
-- the chains of `Chain`, with the same formulas. A list is written from its last item back to its first. Assumes nothing.
use Prim.Native.Nat.{ℕ, zero, suc}
use Rattle.std.proofs.Common.{arith, sym, ◌∙◌}
use Rattle.std.specs.Prelude.{◌≡◌, ◌↔◌}
use Rattle.std.proofs.Math.Path.{refl, ap}
use mathlib.Core.List.{List, [], ◌∷◌}
use Rattle.grammar.specs.Data.Symbol.{Symbol, nonterminal, after}
use Rattle.grammar.specs.Data.Book.{Book, inherited_owner}
use Rattle.grammar.specs.Automaton.Items.{Derives, Reaches, KernelItem, Partial, Chain, one, longer}
use Rattle.grammar.specs.Formulas.Formula.{Formula, gives, own_below, formula, LrAttributed}
use Rattle.grammar.specs.Formulas.ChainLaws.{chain-partial}

pub record Item : Type 0 where
  pub rule : ℕ
  pub dot : ℕ
  pub lookahead : ℕ

abbrev pub item : ℕ → ℕ → ℕ → Item
item P D c = record { rule = P; dot = D; lookahead = c }

module _ (b : Book) where
  -- the first item directly derives the second
  abbrev pub DerivesItem : Item → Item → Type 0
  DerivesItem i j = (j.dot ≡ 0) × Derives b.rules i.rule i.dot i.lookahead j.rule j.lookahead

  module _ (S a : ℕ) where
    -- the item is one of the partial state (S, a)
    abbrev pub InPartial : Item → Type 0
    InPartial i = Partial b S a i.rule i.dot i.lookahead

    -- the list is a chain of (S, a): a kernel item alone, or one item more, which the last one directly derives
    pub data ChainList : List Item → Type 0 where
      kernel_alone : {i : Item} → InPartial i → KernelItem b S i.rule i.dot i.lookahead → ChainList (i ∷ [])
      one_more : {i j : Item} {l : List Item} → ChainList (i ∷ l) → InPartial j → DerivesItem i j → ChainList (j ∷ i ∷ l)

  -- the formula that a list with the last item i gives an attribute of its next symbol: "In a chain of one item with dot D, own becomes (inherited stack,
  -- offset -D, attribute) .. In a longer chain own becomes the formula of the chain without its last item"
  unfoldable pub list_formula : Item → List Item → ℕ → Formula
  list_formula i [] K = gives b i.rule i.dot (own_below i.dot) K
  list_formula i (j ∷ l) K = gives b i.rule i.dot (list_formula j l) K

  module _ {S a : ℕ} where
    -- from chains to lists

    before : {P D c : ℕ} → Chain b S a P D c → List Item
    before (one k r) = []
    before (longer {P = P} {D = D} {c = c} chain e r) = item P D c ∷ before chain

    listed : {P D c : ℕ} (chain : Chain b S a P D c) → ChainList S a (item P D c ∷ before chain)
    unfolding before
    listed (one k r) = kernel_alone (chain-partial b (one k r)) k
    listed (longer chain e r) = one_more (listed chain) (chain-partial b (longer chain e r)) (refl, e)

    listed-formula : {P D c : ℕ} (chain : Chain b S a P D c) (K : ℕ) → list_formula (item P D c) (before chain) K ≡ formula b chain K
    unfolding before list_formula formula
    listed-formula (one k r) K = refl
    listed-formula (longer {Q = Q} chain e r) K = ap (λ (f : ℕ → Formula). gives b Q 0 f K) (λ i k. listed-formula chain k i)

    -- from lists to chains

    lengthened : {P D c Q c' : ℕ} (D' : ℕ) → D' ≡ 0 → (chain : Chain b S a P D c) → Derives b.rules P D c Q c' → Reaches b.rules a Q D' c'
        → (chain' : Chain b S a Q D' c') × ((K : ℕ) → formula b chain' K ≡ gives b Q D' (formula b chain) K)
    unfolding formula
    lengthened zero z chain e r = (longer chain e r, λ K. refl)
    lengthened (suc n) z chain e r = absurd (omega arith)

    chained : (i : Item) (l : List Item) → ChainList S a (i ∷ l)
        → (chain : Chain b S a i.rule i.dot i.lookahead) × ((K : ℕ) → formula b chain K ≡ list_formula i l K)
    unfolding list_formula formula
    chained i [] (kernel_alone p k) = (one k p.1, λ K. refl)
    chained i (j ∷ l) (one_more h p d) =
        let (chain, e) = chained j l h in
        let (chain', e') = lengthened i.dot d.0 chain d.1 p.1 in
        (chain', λ K. e' K ∙ ap (λ (f : ℕ → Formula). gives b i.rule i.dot f K) (λ x k. e k x))

    -- f is the formula of a chain that ends in the item (P, D, c) exactly if it is that of such a list
    pub chain-lists : (P D c K : ℕ) (f : Formula) → ((chain : Chain b S a P D c) × (formula b chain K ≡ f))
        ↔ ((l : List Item) × ChainList S a (item P D c ∷ l) × (list_formula (item P D c) l K ≡ f))
    chain-lists P D c K f = (
      λ h. (before h.0, listed h.0, listed-formula h.0 K ∙ h.1),
      λ h. let (chain, e) = chained (item P D c) h.0 h.1 in (chain, e K ∙ h.2),
    )

  -- "LR-attributed: all chains of one partial state that end before the same nonterminal give each of its attributes the same formula"
  pub lr-attributed-lists : LrAttributed b
      ↔ ((S a B K : ℕ) (i j : Item) (l m : List Item) (β γ : List Symbol) → ChainList S a (i ∷ l) → ChainList S a (j ∷ m)
      → after b.rules i.rule i.dot ≡ nonterminal B ∷ β → after b.rules j.rule j.dot ≡ nonterminal B ∷ γ → inherited_owner b K ≡ B
      → list_formula i l K ≡ list_formula j m K)
  lr-attributed-lists = (
    λ h S a B K i j l m β γ x y p q o.
        let (chain, e) = chained i l x in
        let (chain', e') = chained j m y in
        sym (e K) ∙ (h S a _ _ _ _ _ _ B K β γ chain chain' p q o ∙ e' K),
    λ h S a P D c P' D' c' B K β β' chain chain' p q o.
        sym (listed-formula chain K)
        ∙ (h S a B K (item P D c) (item P' D' c') (before chain) (before chain') β β' (listed chain) (listed chain') p q o ∙ listed-formula chain' K),
  )
