-- The formulas in the tables of a book that is LR-attributed: what stands at a state, a terminal and an attribute is the formula of a chain, and every
-- chain's formula stands there. Assumes what is right about the book's sets (ItemsRight) and conditions 3 to 5 and 7 (FormulaPremises).
use Prim.Native.Nat.{ℕ, zero, suc, ◌≤◌, ◌<◌}
use native.Mathlib.Omega.{arith}
use Rattle.std.proofs.Math.Path.{◌≡◌, refl, ap}
use Rattle.std.proofs.Common.{sym, ◌∙◌, ltb-true, ltb-false}
use Rattle.std.specs.Prelude.{Bool, true, false, ltb}
use Rattle.std.proofs.Math.Option.{none, some}
use mathlib.Core.List.{List, [], ◌∷◌}
use Rattle.grammar.specs.Data.Symbol.{Symbol, nonterminal, after}
use Rattle.grammar.specs.Data.Book.{Book, inherited_owner}
use Rattle.grammar.specs.Automaton.Items.{Chain}
use Rattle.grammar.specs.Formulas.Formula.{Formula, formula, LrAttributed}
use Rattle.grammar.specs.Formulas.ChainLaws.{FromChain}
use Rattle.grammar.specs.Automaton.FirstSets.{Sets}
use Rattle.grammar.specs.Automaton.CoreItems.{core_items}
use Rattle.grammar.specs.Automaton.ItemsRight.{ItemsRight}
use Rattle.grammar.specs.Formulas.Slots.{slot_at, slots_of}
use Rattle.grammar.specs.Automaton.Compiled.{tabulate, Partials, partials, items_table, partials_at, parts_table, slots_in, formula_at}
use Rattle.grammar.specs.Automaton.CompiledTables.{tabulate-at, tabulate-past}
use Rattle.grammar.specs.Formulas.PartialLaws.{partial_at}
use Rattle.grammar.proofs.Formulas.PartialLaws.{partial-items}
use Rattle.grammar.specs.Formulas.FormulaPremises.{FormulaPremises}
use Rattle.grammar.proofs.Formulas.SlotsLaws.{slots-some, slots-formula}

module _ (b : Book) (F : Sets) (R : List ℕ) where
  abbrev pub formula_table : List (List Partials)
  formula_table = parts_table b F R (items_table b F)

  part_of : ℕ → ℕ → Partials
  part_of S a = partials_at b (partial_at b F R S a)

  parts_of : ℕ → List Partials
  parts_of S = tabulate (part_of S) 0 (suc b.terminals)

  parts-tabulated : (i count : ℕ) → parts_table b F R (tabulate (core_items b F) i count) ≡ tabulate parts_of i count
  unfolding parts_table tabulate part_of parts_of
  parts-tabulated i zero = refl
  parts-tabulated i (suc count) = ap (λ parts. parts_of i ∷ parts) (parts-tabulated (suc i) count)

  pub formula-at : (S a K : ℕ) → S < b.states → a ≤ b.terminals
      → formula_at formula_table S a K ≡ slot_at (slots_of b (partial_at b F R S a)) K
  unfolding formula_at items_table slots_in partials_at part_of parts_of
  formula-at S a K h l =
      rw (parts-tabulated 0 b.states, tabulate-at parts_of b.states S [] h, tabulate-at (part_of S) (suc b.terminals) a (partials [] []) (omega arith))

  -- a formula stands only at the states and terminals of the book
  formula-within : (S a K : ℕ) (f : Formula) → formula_at formula_table S a K ≡ some f → (S < b.states) × (a ≤ b.terminals)
  unfolding formula_at items_table slots_in parts_of
  formula-within S a K f e = by (ltb S b.states) refl (ltb a (suc b.terminals)) refl
    where
      nothing : formula_at formula_table S a K ≡ none → ⊥
      nothing n = let z : ◌≡◌ {A = ℕ} 0 1 = cc in omega arith

      by : (s : Bool) → ltb S b.states ≡ s → (t : Bool) → ltb a (suc b.terminals) ≡ t → (S < b.states) × (a ≤ b.terminals)
      by true h true l = (ltb-true _ _ h, omega (arith, ltb-true))
      by true h false l =
          absurd (nothing (rw (
            parts-tabulated 0 b.states,
            tabulate-at parts_of b.states S [] (ltb-true _ _ h),
            tabulate-past (part_of S) (suc b.terminals) a (partials [] []) (ltb-false _ _ l),
          )))
      by false h t l = absurd (nothing (rw (parts-tabulated 0 b.states, tabulate-past parts_of b.states S [] (ltb-false _ _ h))))

module _ {b : Book} {F : Sets} {R : List ℕ} (right : ItemsRight b F R) (H : FormulaPremises b) where
  -- a chain is of a state and a terminal of the book
  chain-at : {S a P D c : ℕ} → Chain b S a P D c → (K : ℕ) → formula_at (formula_table b F R) S a K ≡ slot_at (slots_of b (partial_at b F R S a)) K
  chain-at {S} {a} {P} {D} {c} chain K = formula-at b F R S a K (H.chain_state S a P D c chain) (H.chain_terminal S a P D c chain)

  module _ (attributed : LrAttributed b) where
    -- what stands is the formula of a chain that ends before the owner
    pub formula-some : (S a K : ℕ) (f : Formula) → formula_at (formula_table b F R) S a K ≡ some f → FromChain b S a K f
    formula-some S a K f e =
        let (h, l) = formula-within b F R S a K f e in
        slots-some b H S a (partial_at b F R S a) (partial-items right S a) (attributed S a) K f (sym (formula-at b F R S a K h l) ∙ e)

    -- the formula of every chain stands
    pub formula_there : (S a P D c K : ℕ) (β : List Symbol) (chain : Chain b S a P D c) → after b.rules P D ≡ nonterminal (inherited_owner b K) ∷ β
        → formula_at (formula_table b F R) S a K ≡ some (formula b chain K)
    formula_there S a P D c K β chain h =
        chain-at chain K ∙ slots-formula b H S a (partial_at b F R S a) (partial-items right S a) (attributed S a) chain K h refl
