-- A book's states, worked out once: the items of each state, its actions, the formulas of its partial states; and 7 to 10 as tests over them.
-- Assumes nothing.
use Rattle.std.specs.Prelude.{ℕ, zero, suc, Bool, true, false, List, [], ◌∷◌, get_or}
use Rattle.std.proofs.Math.Option.{Option}
use Rattle.grammar.specs.Data.Book.{Book}
use Rattle.grammar.specs.Formulas.Formula.{Formula}
use Rattle.grammar.specs.Automaton.FirstSets.{Sets, sets_of}
use Rattle.grammar.specs.Automaton.ReachSets.{reach_sets}
use Rattle.grammar.specs.Automaton.CoreItems.{Core, core_items}
use Rattle.grammar.specs.Automaton.Actions.{Cell, cells_from, no_conflict_in}
use Rattle.grammar.specs.Formulas.Slots.{Slots, slot_at, partial_of, slots_of, agrees}
use Rattle.grammar.specs.Automaton.StatesCheck.{kernel_rules, go_rules}

-- f i, f (i + 1), .., `count` of them
unfoldable pub tabulate : {A : Type 0} → (ℕ → A) → ℕ → ℕ → List A
tabulate f i zero = []
tabulate f i (suc count) = f i ∷ tabulate f (suc i) count

-- the partial states of one state: the items and the formulas of each terminal
pub data Partials : Type 0 where
  partials : List Core → Slots → Partials

unfoldable pub slots_in : Partials → Slots
slots_in (partials items slots) = slots

-- the formula of attribute K in the partial state (S, a); none past the states and terminals
unfoldable pub formula_at : List (List Partials) → ℕ → ℕ → ℕ → Option Formula
formula_at parts S a K = slot_at (slots_in (get_or (get_or parts S []) a (partials [] []))) K

-- what is worked out of a book
pub record Compiled : Type 0 where
  pub items : List (List Core)
  pub cells : List (List Cell)
  pub parts : List (List Partials)

module _ (b : Book) where
  unfoldable pub items_table : Sets → List (List Core)
  items_table F = tabulate (core_items b F) 0 b.states

  unfoldable pub cells_table : List (List Core) → List (List Cell)
  cells_table [] = []
  cells_table (items ∷ states) = cells_from b.rules items 0 (suc b.terminals) ∷ cells_table states

  unfoldable pub partials_at : List Core → Partials
  partials_at items = partials items (slots_of b items)

  unfoldable pub parts_table : Sets → List ℕ → List (List Core) → List (List Partials)
  parts_table F reached [] = []
  parts_table F reached (items ∷ states) =
      tabulate (λ a. partials_at (partial_of b.rules F reached a items)) 0 (suc b.terminals) ∷ parts_table F reached states

  unfoldable pub compiled : Compiled
  compiled =
      let F : Sets = sets_of b.rules in
      let items : List (List Core) = items_table F in
      record { items = items; cells = cells_table items; parts = parts_table F (reach_sets b.rules F) items }

  -- the items of a state, its action at a terminal, the formula of an attribute in a partial state
  unfoldable pub items_at : List (List Core) → ℕ → List Core
  items_at items S = get_or items S []

  unfoldable pub no_conflict : List (List Cell) → Bool
  no_conflict [] = true
  no_conflict (cells ∷ states) = elim (no_conflict_in cells) [ true ↦ no_conflict states | false ↦ false ]

  unfoldable pub agrees_part : Partials → Bool
  agrees_part (partials items slots) = agrees b slots items

  unfoldable pub one_formula_in : List Partials → Bool
  one_formula_in [] = true
  one_formula_in (part ∷ parts) = elim (agrees_part part) [ true ↦ one_formula_in parts | false ↦ false ]

  unfoldable pub one_formula : List (List Partials) → Bool
  one_formula [] = true
  one_formula (parts ∷ states) = elim (one_formula_in parts) [ true ↦ one_formula states | false ↦ false ]

  -- the first of 7 to 10 that applies, or 0
  unfoldable pub states_refusal : ℕ
  states_refusal =
      elim (kernel_rules b) [
        | false ↦ 7
        | true ↦
            let F : Sets = sets_of b.rules in
            let items : List (List Core) = items_table F in
            elim (go_rules b (items_at items)) [
              | false ↦ 8
              | true ↦
                  elim (no_conflict (cells_table items)) [
                    | false ↦ 9
                    | true ↦ elim (one_formula (parts_table F (reach_sets b.rules F) items)) [ false ↦ 10 | true ↦ 0 ]
                  ]
            ]
      ]

-- opens every definition of this module
unfoldable pub opens : Unit {0}
unfolding tabulate slots_in formula_at items_table cells_table partials_at parts_table compiled items_at no_conflict agrees_part one_formula_in one_formula states_refusal
opens = tt
