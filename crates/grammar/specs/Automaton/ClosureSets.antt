-- The closure of a state as one set of lookaheads for each nonterminal: all rules of a nonterminal share it.
-- Assumes nothing.
use Rattle.std.specs.Prelude.{ℕ, zero, suc, true, false, List, [], ◌∷◌, eqb, length, replicate}
use Rattle.sets.specs.Sets.{with}
use Rattle.grammar.specs.Data.Symbol.{Symbol, terminal, nonterminal, left_of, right_of, after}
use Rattle.grammar.specs.Data.Book.{Book, Kernel}
use Rattle.grammar.specs.Automaton.Fixpoint.{Constraint, idle, set_at, visit, least}
use Rattle.grammar.specs.Automaton.FirstSets.{Sets, first_with}

-- the set of a list's numbers
unfoldable pub set_of : List ℕ → ℕ
set_of [] = 0
set_of (a ∷ rest) = with (set_of rest) a

-- what items with the rest `rest` behind their dots and the lookaheads that `own` has give the next nonterminal; none if there is no such item
unfoldable pub derives_into : Sets → List Symbol → (List ℕ → ℕ) → Constraint
derives_into F [] own = idle
derives_into F (terminal a ∷ β) own = idle
derives_into F (nonterminal B ∷ β) own = record { target = B; gives = λ sets. elim (own sets) [ zero ↦ 0 | suc n ↦ first_with F β (suc n) ] }

-- the kernel lines of a state, in order
unfoldable pub kernels_in : List Kernel → ℕ → List Kernel
kernels_in [] S = []
kernels_in (k ∷ ks) S = elim (eqb k.state S) [ true ↦ k ∷ kernels_in ks S | false ↦ kernels_in ks S ]

module _ (b : Book) (F : Sets) where
  unfoldable pub from_kernels : List Kernel → List ℕ → List ℕ
  from_kernels [] sets = sets
  from_kernels (k ∷ ks) sets = from_kernels ks (visit (derives_into F (after b.rules k.rule k.dot) (λ s. set_of k.lookaheads)) sets)

  unfoldable pub closure_rule : ℕ → Constraint
  closure_rule P = derives_into F (right_of b.rules P) (λ sets. set_at sets (left_of b.rules P))

  -- the lookaheads of each nonterminal's rules in the closure of state S
  unfoldable pub closure_sets : ℕ → List ℕ
  closure_sets S = least closure_rule (length b.rules) (from_kernels (kernels_in b.kernels S) (replicate 32 0))

-- opens every definition of this module
unfoldable pub opens : Unit {0}
unfolding set_of derives_into kernels_in from_kernels closure_rule closure_sets
opens = tt
