-- The items of a state's closure by rule and dot, each with the set of its lookaheads. Actions, go rules and partial states go by this list.
-- Assumes nothing.
use Rattle.std.specs.Prelude.{ℕ, zero, suc, List, [], ◌∷◌, ◌++◌, length}
use Rattle.grammar.specs.Data.Symbol.{Symbol, Rule, left_of, after}
use Rattle.grammar.specs.Data.Book.{Book, Kernel}
use Rattle.grammar.specs.Automaton.Fixpoint.{set_at}
use Rattle.grammar.specs.Automaton.FirstSets.{Sets}
use Rattle.grammar.specs.Automaton.ClosureSets.{set_of, kernels_in, closure_sets}

-- rule, dot, lookaheads
pub data Core : Type 0 where
  core : ℕ → ℕ → ℕ → Core

unfoldable pub of_kernels : List Kernel → List Core
of_kernels [] = []
of_kernels (k ∷ ks) = core k.rule k.dot (set_of k.lookaheads) ∷ of_kernels ks

-- an item with lookaheads; none without
unfoldable pub entered : ℕ → ℕ → List Core → List Core
entered P zero cs = cs
entered P (suc M) cs = core P 0 (suc M) ∷ cs

-- the rules below a number with the dot in front, where a closure has such items
unfoldable pub of_rules : List Rule → List ℕ → ℕ → List Core
of_rules G looks zero = []
of_rules G looks (suc P) = entered P (set_at looks (left_of G P)) (of_rules G looks P)

unfoldable pub core_items : Book → Sets → ℕ → List Core
core_items b F S = of_kernels (kernels_in b.kernels S) ++ of_rules b.rules (closure_sets b F S) (length b.rules)

-- the symbols behind the dot
unfoldable pub rest_of : List Rule → Core → List Symbol
rest_of G (core P D M) = after G P D

-- opens every definition of this module
unfoldable pub opens : Unit {0}
unfolding of_kernels entered of_rules core_items rest_of
opens = tt
