-- The one-formula check (10) by definitions instead of items (01, "Partial states and chains"): each inherited attribute's definition whose item is in the
-- partial state gives its formula once, as soon as the left side of its rule is settled, and two different formulas of one attribute end the check. The
-- partial state is given by a test of its items, by rule and dot. The lists are as long as 01's limits. Assumes nothing.
use Rattle.std.specs.Prelude.{ℕ, suc, ◌-◌, Bool, true, false, ◌&&◌, List, [], ◌∷◌, eqb, length, get_or, set, replicate}
use Rattle.std.proofs.Math.Option.{none, some}
use Rattle.grammar.specs.Limits.{MAX_INHERITED, MAX_DEFINITIONS}
use Rattle.grammar.specs.Conditions.Decides.{any, all_below}
use Rattle.grammar.specs.Data.Term.{number, replace}
use Rattle.grammar.specs.Data.Book.{InheritedDefinition, Book}
use Rattle.grammar.specs.Formulas.Formula.{Formula, becomes}
use Rattle.grammar.specs.Automaton.CoreItems.{Core, core}
use Rattle.grammar.specs.Formulas.Slots.{Slots, slot_at, own_at, same_formula, ready}
use Rattle.grammar.specs.Formulas.Passes.{passes}

-- a line that nothing reads
abbrev pub no_definition : InheritedDefinition
no_definition = record { rule = 0; position = 0; attribute = 0; expression = number 0 }

-- the dot before the symbol that a definition is of: it belongs to the item (rule, dot)
abbrev pub dot_of : InheritedDefinition → ℕ
dot_of line = line.position - 1

-- the formulas that stand, and which definitions have given theirs; or two formulas of one attribute differ
pub data Progress : Type 0 where
  progress : Slots → List Bool → Progress
  split : Progress

-- how many definitions are done
unfoldable pub done_in : List Bool → ℕ
done_in [] = 0
done_in (true ∷ done) = suc (done_in done)
done_in (false ∷ done) = done_in done

-- a split is the last that happens
unfoldable pub advance : Progress → ℕ
advance (progress slots done) = done_in done
advance split = suc MAX_DEFINITIONS

unfoldable pub unsplit : Progress → Bool
unsplit (progress slots done) = true
unsplit split = false

abbrev pub fresh : Progress
fresh = progress (replicate MAX_INHERITED none) (replicate MAX_DEFINITIONS false)

-- the formula f for slot K: an empty slot takes it, and what stands there must be the same
unfoldable pub enter : Slots → List Bool → ℕ → Formula → Progress
enter slots done K f =
    elim (slot_at slots K) [
      | none ↦ progress (set slots K (some f)) done
      | some g ↦ elim (same_formula g f) [ true ↦ progress slots done | false ↦ split ]
    ]

-- the formula that a definition gives, where own of its rule becomes what stands
unfoldable pub formula_of : Slots → InheritedDefinition → Formula
formula_of slots line = replace line.expression (becomes (dot_of line) (own_at slots (dot_of line)))

module _ (b : Book) where
  abbrev pub definitions : ℕ
  definitions = length b.inherited_definitions

  -- the definition of a place
  abbrev pub line_at : ℕ → InheritedDefinition
  line_at d = get_or b.inherited_definitions d no_definition

  module _ (member : ℕ → ℕ → Bool) where
    -- a definition may give its formula: its item is in the partial state, and does not wait for its left side
    unfoldable pub due : Slots → InheritedDefinition → Bool
    due slots line = elim (member line.rule (dot_of line)) [ true ↦ ready b slots line.rule (dot_of line) | false ↦ false ]

    unfoldable pub visit : ℕ → Progress → Progress
    visit d split = split
    visit d (progress slots done) =
        elim (get_or done d true) [
          | true ↦ progress slots done
          | false ↦
              elim (due slots (line_at d)) [
                | true ↦ enter slots (set done d true) (line_at d).attribute (formula_of slots (line_at d))
                | false ↦ progress slots done
              ]
        ]

    unfoldable pub ended : Progress
    ended = passes visit advance definitions fresh

    -- 10, of one partial state
    unfoldable pub check : Bool
    check = unsplit ended

  -- 10, of all: `members S a` tests the items of the partial state (S, a)
  unfoldable pub check_all : (ℕ → ℕ → ℕ → ℕ → Bool) → Bool
  check_all members = all_below b.states λ S. all_below (suc b.terminals) λ a. check (members S a)

-- the test of the items that a list has
unfoldable pub is_item : ℕ → ℕ → Core → Bool
is_item P D (core Q E M) = eqb Q P && eqb E D

unfoldable pub listed : List Core → ℕ → ℕ → Bool
listed items P D = any (is_item P D) items

-- opens every definition of this module
unfoldable pub opens : Unit {0}
unfolding done_in advance unsplit enter formula_of due visit ended check check_all is_item listed
opens = tt
