-- The one-formula check decides the one-formula condition of a partial state (10, of one state and terminal). If every item gives what stands in the
-- slots, by induction every chain's formula stands there. If all chains agree, every slot that a pass fills holds a chain's formula, and at the end
-- of the passes every chain's slots are filled, so that each item gives what stands there. Assumes the premises of formulas and that the list has the
-- partial state's items.
use Prim.Native.Nat.{ℕ, zero, suc, ◌<◌}
use Rattle.std.proofs.Common.{arith, sym, ◌∙◌}
use Rattle.std.specs.Prelude.{◌≡◌}
use Rattle.std.proofs.Math.Path.{refl, ap}
use Rattle.std.proofs.Math.Bool.{true}
use Rattle.std.proofs.Math.Option.{some}
use mathlib.Core.List.{List, ◌∷◌, Memᴰ as Mem}
use Rattle.grammar.specs.Conditions.Decides.{Decides}
use Rattle.grammar.specs.Data.Symbol.{Symbol, nonterminal, left_of, after}
use Rattle.grammar.specs.Data.TermLaws.{replace-same}
use Rattle.grammar.specs.Data.Book.{Place, own, at, val, Book, inherited_owner}
use Rattle.grammar.specs.Automaton.Items.{derives, KernelItem, Chain, one, longer}
use Rattle.grammar.specs.Formulas.Formula.{Formula, becomes, own_below, gives, formula}
use Rattle.grammar.specs.Formulas.ChainLaws.{FromChain, from_chain, OneFormula, from-chain-same}
use Rattle.grammar.specs.Automaton.CoreItems.{Core, core}
use Rattle.grammar.specs.Formulas.Slots.{Slots, slot_at, standing, own_at, attributes, ready, slots_of, agrees}
use Rattle.grammar.specs.Formulas.SlotsFill.{Filled, Each, slots-each, slots_filled}
use Rattle.grammar.proofs.Formulas.SlotsTests.{settled_below-decides, ItemAgrees, agrees-decides}
use Rattle.grammar.specs.Formulas.PartialLaws.{PartialItems}
use Rattle.grammar.specs.Formulas.FormulaPremises.{OwnLeft, FormulaPremises}

module _ (b : Book) (H : FormulaPremises b) where
  -- ---------------------------------------------------------------- what an item gives

  -- it goes only by what own of its rule's left side becomes
  gives_same : (P D : ℕ) (f g : ℕ → Formula) → ((K : ℕ) → inherited_owner b K ≡ left_of b.rules P → f K ≡ g K) → (K : ℕ) → gives b P D f K ≡ gives b P D g K
  unfolding gives becomes
  gives_same P D f g same K = replace-same (H.own_left P (suc D) K) _ _ leaves
    where
      leaves : (place : Place) → OwnLeft b P place → becomes D f place ≡ becomes D g place
      leaves (own J) o = same J o
      leaves (at I J) o = refl
      leaves (val I) o = refl

  -- rule 0 reads nothing as own
  bare-same : (f g : ℕ → Formula) (K : ℕ) → inherited_owner b K ≡ left_of b.rules 0 → f K ≡ g K
  bare-same f g K o = absurd (H.start_bare K (o ∙ H.start_left))

  -- a kernel item gives the formula of the chain of it alone
  kernel-gives : (slots : Slots) (S P D c : ℕ) → KernelItem b S P D c → (K : ℕ) → gives b P D (own_at slots D) K ≡ gives b P D (own_below D) K
  unfolding own_at
  kernel-gives slots S P zero c k K =
      let start : P ≡ 0 = H.start_dot S P c k in
      rw start (gives_same 0 0 (own_at slots 0) (own_below 0) (bare-same (own_at slots 0) (own_below 0)) K)
  kernel-gives slots S P (suc D) c k K = refl

  -- an item that a chain's last item directly derives, if the chain's formulas stand in the slots
  derived-gives : (slots : Slots) (Q : ℕ) (f : ℕ → Formula) → ((J : ℕ) → inherited_owner b J ≡ left_of b.rules Q → slot_at slots J ≡ some (f J))
      → (K : ℕ) → gives b Q 0 (own_at slots 0) K ≡ gives b Q 0 f K
  unfolding own_at standing
  derived-gives slots Q f stand K = gives_same Q 0 (own_at slots 0) f (λ J o. ap standing (stand J o)) K

  module _ (S a : ℕ) (items : List Core) (listed : PartialItems b S a items) where
    -- ---------------------------------------------------------------- if the check finds nothing wrong

    -- every chain's formula stands in the slots
    pub agrees-stands : (slots : Slots) → agrees b slots items ≡ true → {P D c B : ℕ} {β : List Symbol} (chain : Chain b S a P D c) (K : ℕ)
        → after b.rules P D ≡ nonterminal B ∷ β → inherited_owner b K ≡ B → slot_at slots K ≡ some (formula b chain K)
    unfolding formula
    agrees-stands slots agree (one {P = P} {D = D} {c = c} k r) K h o =
        let (M, m) = listed.chain_item P D c (one k r) in
        (agrees-decides b slots items).sound agree (core P D M) m _ _ h K (H.next_owned P D _ K _ h o) o ∙ ap some (kernel-gives slots S P D c k K)
    agrees-stands slots agree (longer {Q = Q} {d = d} chain (derives g p q f) r) K h o =
        let (M, m) = listed.chain_item Q 0 d (longer chain (derives g p q f) r) in
        (agrees-decides b slots items).sound agree (core Q 0 M) m _ _ h K (H.next_owned Q 0 _ K _ h o) o
        ∙ ap some (derived-gives slots Q (formula b chain) (λ J u. agrees-stands slots agree chain J g (u ∙ q)) K)

    pub agrees-one-formula : (slots : Slots) → agrees b slots items ≡ true → OneFormula b S a
    agrees-one-formula slots agree P D c P' D' c' B K β β' chain chain' h h' o =
        let e = agrees-stands slots agree chain K h o in
        let e' = agrees-stands slots agree chain' K h' o in
        cc

    -- ---------------------------------------------------------------- if all chains agree

    -- the slots of a ready chain's next nonterminal are filled in the end
    ready-filled : {P D c B : ℕ} {β : List Symbol} → Chain b S a P D c → (K : ℕ) → ready b (slots_of b items) P D ≡ true
        → after b.rules P D ≡ nonterminal B ∷ β → inherited_owner b K ≡ B → Filled (slot_at (slots_of b items) K)
    ready-filled {P} {D} {c} {B} {β} chain K r h o =
        let (M, m) = listed.chain_item P D c chain in
        let limit = H.attributes_limit in
        slots_filled b items (omega arith) P D M B K β m h r (H.next_owned P D _ K _ h o) o

    -- and all chains are ready in the end
    slots-ready : {P D c : ℕ} → Chain b S a P D c → ready b (slots_of b items) P D ≡ true
    unfolding ready
    slots-ready (one {P = P} {D = D} {c = c} k r) = by D k
      where
        by : (D : ℕ) → KernelItem b S P D c → ready b (slots_of b items) P D ≡ true
        by zero k =
            let start : P ≡ 0 = H.start_dot S P c k in
            (settled_below-decides _ _ _ _).complete λ K l o. absurd (H.start_bare K (o ∙ ap (left_of b.rules) start ∙ H.start_left))
        by (suc D) k = refl
    slots-ready (longer chain (derives g p q f) r) =
        (settled_below-decides _ _ _ _).complete λ J l o. ready-filled chain J (slots-ready chain) g (o ∙ q)

    module _ (agree : OneFormula b S a) where
      -- a ready item gives its chains' formula, where all that stands is of chains
      chain-gives : (s : Slots) → Each (FromChain b S a) s → {P D c : ℕ} (chain : Chain b S a P D c) → ready b s P D ≡ true
          → (K : ℕ) → gives b P D (own_at s D) K ≡ formula b chain K
      unfolding formula ready
      chain-gives s each (one {P = P} {D = D} {c = c} k r) settled K = kernel-gives s S P D c k K
      chain-gives s each (longer {P = P} {D = D} {Q = Q} chain (derives {B = B} g p q f) r) settled K = derived-gives s Q (formula b chain) stand K
        where
          stand : (J : ℕ) → inherited_owner b J ≡ left_of b.rules Q → slot_at s J ≡ some (formula b chain J)
          stand J o =
              let owner : inherited_owner b J ≡ B = o ∙ q in
              let below : J < attributes b = H.next_owned P D B J _ g owner in
              let (f, e) = (settled_below-decides b.inherited_owners s (left_of b.rules Q) (attributes b)).sound settled J below o in
              e ∙ ap some (sym (from-chain-same b J agree chain g owner (each J f e)))

      -- what stands in a slot is the formula of a chain
      pub slots-some : (K : ℕ) (f : Formula) → slot_at (slots_of b items) K ≡ some f → FromChain b S a K f
      slots-some = slots-each b items (FromChain b S a) item-gives
        where
          item-gives : (P D M B K : ℕ) (β : List Symbol) (s : Slots) → Mem (core P D M) items → after b.rules P D ≡ nonterminal B ∷ β
              → inherited_owner b K ≡ B → ready b s P D ≡ true → Each (FromChain b S a) s → FromChain b S a K (gives b P D (own_at s D) K)
          item-gives P D M B K β s m h o r each =
              let (c, chain) = listed.item_chain P D M m in
              from_chain {β = β} chain (rw o h) (sym (chain-gives s each chain r K))

      -- the formula of every chain stands there
      pub slots-formula : {P D c B : ℕ} {β : List Symbol} (chain : Chain b S a P D c) (K : ℕ) → after b.rules P D ≡ nonterminal B ∷ β
          → inherited_owner b K ≡ B → slot_at (slots_of b items) K ≡ some (formula b chain K)
      slots-formula chain K h o =
          let (f, e) = ready-filled chain K (slots-ready chain) h o in
          e ∙ ap some (sym (from-chain-same b K agree chain h o (slots-some K f e)))

      pub one-formula-agrees : agrees b (slots_of b items) items ≡ true
      one-formula-agrees = (agrees-decides b (slots_of b items) items).complete item-agrees
        where
          item-agrees : (item : Core) → Mem item items → ItemAgrees b (slots_of b items) item
          item-agrees (core P D M) m = λ B β h K l o.
              let (c, chain) = listed.item_chain P D M m in
              slots-formula chain K h o ∙ ap some (sym (chain-gives (slots_of b items) slots-some chain (slots-ready chain) K))

    -- 10, of one partial state
    pub agrees-decides-one-formula : Decides (agrees b (slots_of b items) items) (OneFormula b S a)
    agrees-decides-one-formula = record { sound = agrees-one-formula (slots_of b items); complete = one-formula-agrees }
