-- Nullable and FIRST as sets: which nonterminals derive the empty string, and for each the terminals that can begin what it derives.
-- Assumes nothing.
use Rattle.std.specs.Prelude.{ℕ, Bool, true, false, List, [], ◌∷◌, length, replicate}
use Rattle.sets.specs.Sets.{bit, single, union}
use Rattle.grammar.specs.Data.Symbol.{Symbol, terminal, nonterminal, Rule, left_of, right_of}
use Rattle.grammar.specs.Automaton.Fixpoint.{Constraint, set_at, least}

-- every symbol is a nonterminal of the set
unfoldable pub null_in : ℕ → List Symbol → Bool
null_in nulls [] = true
null_in nulls (terminal a ∷ β) = false
null_in nulls (nonterminal B ∷ β) = elim (bit nulls B) [ true ↦ null_in nulls β | false ↦ false ]

-- what can begin a string, where `firsts` has it for each nonterminal
unfoldable pub first_in : ℕ → List ℕ → List Symbol → ℕ
first_in nulls firsts [] = 0
first_in nulls firsts (terminal a ∷ β) = single a
first_in nulls firsts (nonterminal B ∷ β) = elim (bit nulls B) [ true ↦ union (set_at firsts B) (first_in nulls firsts β) | false ↦ set_at firsts B ]

module _ (G : List Rule) where
  -- a rule whose right symbols are all nullable makes its left side nullable
  unfoldable pub null_rule : ℕ → Constraint
  null_rule P = record { target = 0; gives = λ sets. elim (null_in (set_at sets 0) (right_of G P)) [ true ↦ single (left_of G P) | false ↦ 0 ] }

  unfoldable pub nullable : ℕ
  nullable = set_at (least null_rule (length G) (0 ∷ [])) 0

  -- what begins a right side begins its left side
  unfoldable pub first_rule : ℕ → ℕ → Constraint
  first_rule nulls P = record { target = left_of G P; gives = λ sets. first_in nulls sets (right_of G P) }

  unfoldable pub first_sets : ℕ → List ℕ
  first_sets nulls = least (first_rule nulls) (length G) (replicate 32 0)

-- the grammar's sets, worked out once
pub data Sets : Type 0 where
  sets : ℕ → List ℕ → Sets

unfoldable pub sets_of : List Rule → Sets
sets_of G = let nulls : ℕ = nullable G in sets nulls (first_sets G nulls)

-- whether a string derives the empty string, and what can begin it
unfoldable pub null : Sets → List Symbol → Bool
null (sets nulls firsts) β = null_in nulls β

unfoldable pub first : Sets → List Symbol → ℕ
first (sets nulls firsts) β = first_in nulls firsts β

-- FIRST(β b) for all b of a set
unfoldable pub first_with : Sets → List Symbol → ℕ → ℕ
first_with F β M = elim (null F β) [ true ↦ union (first F β) M | false ↦ first F β ]

-- opens every definition of this module
unfoldable pub opens : Unit {0}
unfolding null_in first_in null_rule nullable first_rule first_sets sets_of null first first_with
opens = tt
