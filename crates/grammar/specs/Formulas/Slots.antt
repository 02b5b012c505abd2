-- The formulas of a partial state (S, a), one slot for each inherited attribute, and the one-formula check (10): items of the kernel fill the
-- slots of their next nonterminal, then passes over the rules whose left side is settled; in the end every item must give just what stands there.
-- Assumes nothing.
use Rattle.std.specs.Prelude.{ℕ, zero, suc, ◌^◌, Bool, true, false, List, [], ◌∷◌, eqb, length, get_or, set, replicate}
use Rattle.std.proofs.Math.Decide.{ℕ_discrete}
use Rattle.std.proofs.Math.Option.{Option, none, some}
use Rattle.sets.specs.Sets.{bit}
use Rattle.grammar.specs.Data.Symbol.{Symbol, terminal, nonterminal, Rule, left_of, after}
use Rattle.grammar.specs.Data.Term.{Term-discrete, Operator-discrete, number}
use Rattle.grammar.specs.Data.Book.{Book, owner_at}
use Rattle.grammar.specs.Formulas.Formula.{Stack-discrete, Part-discrete, Leaf-discrete, Formula, own_below, gives}
use Rattle.grammar.specs.Automaton.Fixpoint.{iterate}
use Rattle.grammar.specs.Automaton.FirstSets.{Sets}
use Rattle.grammar.specs.Automaton.ReachSets.{reach_with}
use Rattle.grammar.specs.Automaton.CoreItems.{Core, core}

-- the items that reach a: the partial state, by rule and dot
unfoldable pub partial_of : List Rule → Sets → List ℕ → ℕ → List Core → List Core
partial_of G F reached a [] = []
partial_of G F reached a (core P D M ∷ items) =
    elim (bit (reach_with F reached (after G P D) M) a) [
      | true ↦ core P D M ∷ partial_of G F reached a items
      | false ↦ partial_of G F reached a items
    ]

abbrev pub Slots : Type 0
Slots = List (Option Formula)

abbrev pub slot_at : Slots → ℕ → Option Formula
slot_at slots K = get_or slots K none

-- the formula that stands in a slot
unfoldable pub standing : Option Formula → Formula
standing none = number 0
standing (some f) = f

-- what own of an item's rule becomes: with the dot in front, what stands in the slots of its left side (rule 0's left side has none)
unfoldable pub own_at : Slots → ℕ → ℕ → Formula
own_at slots zero K = standing (slot_at slots K)
own_at slots (suc D) K = own_below (suc D) K

-- whether every attribute below a number that A owns has a formula
unfoldable pub settled_below : List ℕ → Slots → ℕ → ℕ → Bool
settled_below owners slots A zero = true
settled_below owners slots A (suc K) =
    elim (eqb (owner_at owners K) A) [
      | true ↦ elim (slot_at slots K) [ none ↦ false | some f ↦ settled_below owners slots A K ]
      | false ↦ settled_below owners slots A K
    ]

unfoldable pub same_formula : Formula → Formula → Bool
same_formula f g =
    elim (Term-discrete ℕ_discrete (Leaf-discrete Stack-discrete ℕ_discrete (Part-discrete ℕ_discrete)) Operator-discrete f g) [
      | yes e ↦ true
      | no n ↦ false
    ]

-- a slot that is empty takes the formula
unfoldable pub fill : Slots → ℕ → Formula → Slots
fill slots K f = elim (slot_at slots K) [ none ↦ set slots K (some f) | some g ↦ slots ]

-- whether just this formula stands there
unfoldable pub stands : Option Formula → Formula → Bool
stands none f = false
stands (some g) f = same_formula g f

unfoldable pub filled : Slots → ℕ
filled [] = 0
filled (none ∷ slots) = filled slots
filled (some f ∷ slots) = suc (filled slots)

module _ (b : Book) where
  abbrev pub attributes : ℕ
  attributes = length b.inherited_owners

  -- an item with the dot in front waits until its left side is settled
  unfoldable pub ready : Slots → ℕ → ℕ → Bool
  ready slots P zero = settled_below b.inherited_owners slots (left_of b.rules P) attributes
  ready slots P (suc D) = true

  -- the slots of B's attributes below a number, filled by the item (P, D); own reads the slots that stood before
  unfoldable pub fill_from : Slots → ℕ → ℕ → ℕ → ℕ → Slots → Slots
  fill_from old P D B zero slots = slots
  fill_from old P D B (suc K) slots =
      elim (eqb (owner_at b.inherited_owners K) B) [
        | true ↦ fill (fill_from old P D B K slots) K (gives b P D (own_at old D) K)
        | false ↦ fill_from old P D B K slots
      ]

  unfoldable pub fill_item : ℕ → ℕ → List Symbol → Slots → Slots
  fill_item P D [] slots = slots
  fill_item P D (terminal a ∷ β) slots = slots
  fill_item P D (nonterminal B ∷ β) slots = elim (ready slots P D) [ true ↦ fill_from slots P D B attributes slots | false ↦ slots ]

  unfoldable pub fill_pass : List Core → Slots → Slots
  fill_pass [] slots = slots
  fill_pass (core P D M ∷ items) slots = fill_pass items (fill_item P D (after b.rules P D) slots)

  -- the formulas of a partial state
  unfoldable pub slots_of : List Core → Slots
  slots_of items = iterate (λ s t. eqb (filled s) (filled t)) (fill_pass items) (2 ^ 40) (replicate attributes none)

  -- whether the item (P, D) gives B's attributes below a number just what stands there
  unfoldable pub agrees_below : Slots → ℕ → ℕ → ℕ → ℕ → Bool
  agrees_below slots P D B zero = true
  agrees_below slots P D B (suc K) =
      elim (eqb (owner_at b.inherited_owners K) B) [
        | true ↦ elim (stands (slot_at slots K) (gives b P D (own_at slots D) K)) [ true ↦ agrees_below slots P D B K | false ↦ false ]
        | false ↦ agrees_below slots P D B K
      ]

  unfoldable pub agrees_item : Slots → ℕ → ℕ → List Symbol → Bool
  agrees_item slots P D [] = true
  agrees_item slots P D (terminal a ∷ β) = true
  agrees_item slots P D (nonterminal B ∷ β) = agrees_below slots P D B attributes

  -- 10, of one partial state
  unfoldable pub agrees : Slots → List Core → Bool
  agrees slots [] = true
  agrees slots (core P D M ∷ items) = elim (agrees_item slots P D (after b.rules P D)) [ true ↦ agrees slots items | false ↦ false ]

-- opens every definition of this module
unfoldable pub opens : Unit {0}
unfolding ℕ_discrete partial_of standing own_at settled_below same_formula fill stands filled ready fill_from fill_item fill_pass slots_of agrees_below agrees_item agrees
opens = tt
