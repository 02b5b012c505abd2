-- Which terminals items reach, as sets. As FIRST, but a nonterminal counts only if something can follow it: where FIRST of the rest behind it is
-- empty it directly derives no item, so that nothing is reached through it. Assumes nothing.
use Rattle.std.specs.Prelude.{ℕ, Bool, true, false, List, [], ◌∷◌, eqb, length, replicate}
use Rattle.sets.specs.Sets.{single, union}
use Rattle.grammar.specs.Data.Symbol.{Symbol, terminal, nonterminal, Rule, left_of, right_of}
use Rattle.grammar.specs.Automaton.Fixpoint.{Constraint, set_at, least}
use Rattle.grammar.specs.Automaton.FirstSets.{Sets, null, first}

-- FIRST(β b) is empty, whatever b
unfoldable pub dead : Sets → List Symbol → Bool
dead F β = elim (null F β) [ true ↦ false | false ↦ eqb (first F β) 0 ]

-- what is reached before a string ends, where `reached` has it for each nonterminal
unfoldable pub reach_in : Sets → List ℕ → List Symbol → ℕ
reach_in F reached [] = 0
reach_in F reached (terminal a ∷ β) = single a
reach_in F reached (nonterminal B ∷ β) =
    elim (dead F β) [
      | true ↦ 0
      | false ↦ elim (null F (nonterminal B ∷ [])) [ true ↦ union (set_at reached B) (first F β) | false ↦ set_at reached B ]
    ]

unfoldable pub reach_rule : List Rule → Sets → ℕ → Constraint
reach_rule G F P = record { target = left_of G P; gives = λ sets. reach_in F sets (right_of G P) }

-- for each nonterminal, what its rules reach before they are complete
unfoldable pub reach_sets : List Rule → Sets → List ℕ
reach_sets G F = least (reach_rule G F) (length G) (replicate 32 0)

-- what items with the symbols β behind their dots and lookaheads M reach
unfoldable pub reach_with : Sets → List ℕ → List Symbol → ℕ → ℕ
reach_with F reached β M = elim (null F β) [ true ↦ union (reach_in F reached β) M | false ↦ reach_in F reached β ]

-- opens every definition of this module
unfoldable pub opens : Unit {0}
unfolding dead reach_in reach_rule reach_sets reach_with
opens = tt
