-- The actions of a state, worked out from its items: shift, reduce, accept, none, or a conflict (01, "Items and transitions").
-- Assumes nothing.
use Rattle.std.specs.Prelude.{ℕ, zero, suc, Bool, true, false, List, [], ◌∷◌}
use Rattle.std.proofs.Math.Decide.{ℕ_discrete}
use Rattle.std.proofs.Math.Option.{Option, none, some}
use Rattle.sets.specs.Sets.{bit, single}
use Rattle.grammar.specs.Data.Symbol.{Symbol, terminal, nonterminal, Rule, after}
use Rattle.grammar.specs.Automaton.States.{Action, Action-discrete, shift, accept, reduce}
use Rattle.grammar.specs.Automaton.CoreItems.{Core, core}

unfoldable pub same_action : Action → Action → Bool
same_action x y = elim (Action-discrete ℕ_discrete x y) [ yes e ↦ true | no n ↦ false ]

-- what stands at a state and a terminal
pub data Cell : Type 0 where
  free : Cell
  act : Action → Cell
  conflict : Cell

unfoldable pub meld : Cell → Action → Cell
meld free x = act x
meld (act y) x = elim (same_action x y) [ true ↦ act y | false ↦ conflict ]
meld conflict x = conflict

-- a complete rule reduces, rule 0 accepts
unfoldable pub completed : ℕ → Action
completed zero = accept
completed (suc P) = reduce (suc P)

-- the action of an item at the terminal a, by the symbols behind its dot
unfoldable pub meld_item : ℕ → ℕ → ℕ → List Symbol → Cell → Cell
meld_item a P M [] cell = elim (bit M a) [ true ↦ meld cell (completed P) | false ↦ cell ]
meld_item a P M (terminal c ∷ β) cell = elim (bit (single c) a) [ true ↦ meld cell shift | false ↦ cell ]
meld_item a P M (nonterminal B ∷ β) cell = cell

unfoldable pub cell_from : List Rule → List Core → ℕ → Cell
cell_from G [] a = free
cell_from G (core P D M ∷ items) a = meld_item a P M (after G P D) (cell_from G items a)

-- the cells of `count` terminals from a on
unfoldable pub cells_from : List Rule → List Core → ℕ → ℕ → List Cell
cells_from G items a zero = []
cells_from G items a (suc count) = cell_from G items a ∷ cells_from G items (suc a) count

unfoldable pub no_conflict_in : List Cell → Bool
no_conflict_in [] = true
no_conflict_in (free ∷ cells) = no_conflict_in cells
no_conflict_in (act x ∷ cells) = no_conflict_in cells
no_conflict_in (conflict ∷ cells) = false

-- the action of a cell
unfoldable pub action_of : Cell → Option Action
action_of free = none
action_of (act x) = some x
action_of conflict = none

-- opens every definition of this module
unfoldable pub opens : Unit {0}
unfolding ℕ_discrete same_action meld completed meld_item cell_from cells_from no_conflict_in action_of
opens = tt
