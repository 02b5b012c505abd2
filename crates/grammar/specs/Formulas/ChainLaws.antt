-- Chains and partial states (01, "Partial states and chains"): the items of a partial state are the last items of its chains; the
-- one-formula condition of one partial state. Assumes nothing.
use Rattle.std.specs.Prelude.{ℕ, ◌≡◌, List, ◌∷◌}
use Rattle.std.proofs.Common.{◌∙◌}
use Rattle.grammar.specs.Data.Symbol.{Symbol, nonterminal, after}
use Rattle.grammar.specs.Data.Book.{Book, inherited_owner}
use Rattle.grammar.specs.Automaton.Items.{Reaches, further, Closure, kernel, close, Partial, Chain, one, longer}
use Rattle.grammar.specs.Formulas.Formula.{Formula, formula}

module _ (b : Book) where
  pub chain-closure : {S a P D c : ℕ} → Chain b S a P D c → Closure b S P D c
  chain-closure (one k r) = kernel k
  chain-closure (longer chain e r) = close (chain-closure chain) e

  pub chain-reaches : {S a P D c : ℕ} → Chain b S a P D c → Reaches b.rules a P D c
  chain-reaches (one k r) = r
  chain-reaches (longer chain e r) = r

  pub chain-partial : {S a P D c : ℕ} → Chain b S a P D c → Partial b S a P D c
  chain-partial chain = (chain-closure chain, chain-reaches chain)

  pub chain-to : {S a P D c : ℕ} → Closure b S P D c → Reaches b.rules a P D c → Chain b S a P D c
  chain-to (kernel k) r = one k r
  chain-to (close closure e) r = longer (chain-to closure (further e r)) e r

  -- f is the formula of some chain of (S, a) that ends before the owner of K
  pub data FromChain (S a K : ℕ) (f : Formula) : Type 0 where
    from_chain : {P D c : ℕ} {β : List Symbol} (chain : Chain b S a P D c) → after b.rules P D ≡ nonterminal (inherited_owner b K) ∷ β
        → formula b chain K ≡ f → FromChain S a K f

  -- all chains of (S, a) that end before the same nonterminal give each of its attributes the same formula; LrAttributed says it of every (S, a)
  abbrev pub OneFormula : ℕ → ℕ → Type 0
  OneFormula S a = (P D c P' D' c' B K : ℕ) (β β' : List Symbol) (chain : Chain b S a P D c) (chain' : Chain b S a P' D' c')
      → after b.rules P D ≡ nonterminal B ∷ β → after b.rules P' D' ≡ nonterminal B ∷ β' → inherited_owner b K ≡ B
      → formula b chain K ≡ formula b chain' K

  -- where the chains agree, each gives what any of them gives
  pub from-chain-same : {S a P D c B : ℕ} {β : List Symbol} (K : ℕ) {f : Formula} → OneFormula S a → (chain : Chain b S a P D c)
      → after b.rules P D ≡ nonterminal B ∷ β → inherited_owner b K ≡ B → FromChain S a K f → formula b chain K ≡ f
  from-chain-same {P = P} {D = D} {c = c} {B = B} {β = β} K agree chain h o (from_chain {P = P'} {D = D'} {c = c'} {β = β'} chain' h' e) =
      agree P D c P' D' c' B K β β' chain chain' h (rw o at h') o ∙ e
