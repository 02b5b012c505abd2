-- The listed items of a partial state are those at the ends of its chains, if the listed items of its state are right.
-- Assumes nothing.
use Rattle.std.specs.Prelude.{ℕ, ◌≡◌, Bool}
use Rattle.std.proofs.Math.Path.{refl}
use Rattle.std.proofs.Math.Bool.{true, false}
use mathlib.Core.List.Memᴰ.{head as in_head}
use mathlib.Core.List.Memᴰ.{tail as in_Tail}
use mathlib.Core.List.{List, [], ◌∷◌, Memᴰ as Mem}
use Rattle.sets.specs.Sets.{bit}
use Rattle.grammar.specs.Automaton.TestLaws.{by-test}
use Rattle.grammar.specs.Data.Symbol.{Rule, after}
use Rattle.grammar.specs.Data.Book.{Book}
use Rattle.grammar.specs.Automaton.Items.{Chain}
use Rattle.grammar.specs.Formulas.ChainLaws.{chain-closure, chain-reaches, chain-to}
use Rattle.grammar.specs.Automaton.FirstSets.{Sets}
use Rattle.grammar.specs.Automaton.ReachSets.{reach_with}
use Rattle.grammar.specs.Automaton.CoreItems.{Core, core, core_items}
use Rattle.grammar.specs.Automaton.ItemsRight.{ItemsRight}
use Rattle.grammar.specs.Formulas.Slots.{partial_of}
use Rattle.grammar.specs.Formulas.PartialLaws.{partial_at, PartialItems}

module _ (G : List Rule) (F : Sets) (R : List ℕ) (a : ℕ) where
  partial-in : (P D M : ℕ) (items : List Core) → Mem (core P D M) items → bit (reach_with F R (after G P D) M) a ≡ true
      → Mem (core P D M) (partial_of G F R a items)
  unfolding partial_of
  partial-in P D M [] m t = elim m [ ]
  partial-in P D M (core P' D' M' ∷ items) (in_head e) t =
      let here : bit (reach_with F R (after G P' D') M') a ≡ true = cc in
      rw (here, partial_of) (in_head e)
  partial-in P D M (core P' D' M' ∷ items) (in_Tail m) t =
      let below = partial-in P D M items m t in
      by-test (bit (reach_with F R (after G P' D') M') a) _ _ (Mem (core P D M)) (λ e. in_Tail below) (λ e. below)

  partial-out : (P D M : ℕ) (items : List Core) → Mem (core P D M) (partial_of G F R a items)
      → Mem (core P D M) items × (bit (reach_with F R (after G P D) M) a ≡ true)
  unfolding partial_of
  partial-out P D M [] m = elim m [ ]
  partial-out P D M (core P' D' M' ∷ items) m = by (bit (reach_with F R (after G P' D') M') a) refl m (partial-out P D M items)
    where
      by : (s : Bool) → bit (reach_with F R (after G P' D') M') a ≡ s
          → Mem (core P D M) (elim s [ true ↦ core P' D' M' ∷ partial_of G F R a items | false ↦ partial_of G F R a items ])
          → (Mem (core P D M) (partial_of G F R a items) → Mem (core P D M) items × (bit (reach_with F R (after G P D) M) a ≡ true))
          → Mem (core P D M) (core P' D' M' ∷ items) × (bit (reach_with F R (after G P D) M) a ≡ true)
      by true e (in_head q) below = let t : bit (reach_with F R (after G P D) M) a ≡ true = cc in (in_head q, t)
      by true e (in_Tail n) below = let (i, t) = below n in (in_Tail i, t)
      by false e n below = let (i, t) = below n in (in_Tail i, t)

module _ {b : Book} {F : Sets} {R : List ℕ} (right : ItemsRight b F R) (S a : ℕ) where
  pub partial-items : PartialItems b S a (partial_at b F R S a)
  partial-items = record { item_chain = item; chain_item = listed }
    where
      item : (P D M : ℕ) → Mem (core P D M) (partial_at b F R S a) → (c : ℕ) × Chain b S a P D c
      item P D M m =
          let (n, t) = partial-out b.rules F R a P D M (core_items b F S) m in
          let (c, l, r) = right.core_reaches S P D M a n t in
          (c, chain-to b (right.core_closure S P D M c n l) r)

      listed : (P D c : ℕ) → Chain b S a P D c → (M : ℕ) × Mem (core P D M) (partial_at b F R S a)
      listed P D c chain =
          let (M, m, l) = right.closure_core S P D c (chain-closure b chain) in
          (M, partial-in b.rules F R a P D M (core_items b F S) m (right.reaches_core S P D M a c m l (chain-reaches b chain)))
