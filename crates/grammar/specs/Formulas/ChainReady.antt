-- What is settled by passes is settled at every chain: if the last item of a chain settles its next nonterminal as soon as it need not wait for its left
-- side, no last item waits. Assumes the premises of formulas.
use Rattle.std.specs.Prelude.{ℕ, ◌<◌, ◌≡◌, List, ◌∷◌}
use Rattle.std.proofs.Common.{ap, ◌∙◌}
use Rattle.grammar.specs.Data.Symbol.{Symbol, nonterminal, left_of, after}
use Rattle.grammar.specs.Data.Book.{Book, inherited_owner}
use Rattle.grammar.specs.Automaton.Items.{derives, Chain, one, longer}
use Rattle.grammar.specs.Formulas.Slots.{attributes}
use Rattle.grammar.specs.Formulas.FormulaPremises.{FormulaPremises}

module _ (b : Book) (Settled : ℕ → Type 0) where
  -- the item (P, D) need not wait: if the dot is in front, the attributes of its left side are settled
  abbrev pub Ready : ℕ → ℕ → Type 0
  Ready P D = D ≡ 0 → (K : ℕ) → K < attributes b → inherited_owner b K ≡ left_of b.rules P → Settled K

  -- rule 0 does not wait: n0 owns nothing
  pub start-ready : FormulaPremises b → (D : ℕ) → Ready 0 D
  start-ready H D e K l o = absurd (H.start_bare K (o ∙ H.start_left))

  module _ (H : FormulaPremises b) (S a : ℕ)
      (settles : (P D c B K : ℕ) (β : List Symbol) → Chain b S a P D c → Ready P D → after b.rules P D ≡ nonterminal B ∷ β
      → inherited_owner b K ≡ B → Settled K) where
    pub chain-ready : {P D c : ℕ} → Chain b S a P D c → Ready P D
    chain-ready (one {P = P} {D = D} {c = c} k r) e K l o =
        let start : P ≡ 0 = H.start_dot S P c (rw e at k) in
        start-ready H D e K l (o ∙ ap (left_of b.rules) start)
    chain-ready (longer {P = P} {D = D} {c = c} chain (derives {B = B} {β = β} g p q f) r) e K l o = settles P D c B K β chain (chain-ready chain) g (o ∙ q)

    -- so every chain settles its next nonterminal
    pub chain-settles : {P D c B : ℕ} {β : List Symbol} → Chain b S a P D c → (K : ℕ) → after b.rules P D ≡ nonterminal B ∷ β
        → inherited_owner b K ≡ B → Settled K
    chain-settles {P} {D} {c} {B} {β} chain K h o = settles P D c B K β chain (chain-ready chain) h o
