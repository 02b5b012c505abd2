-- The passes over definitions at work. The one-formula check on the books of the cases: 01's S, and the small books on which the plausible slips would
-- go wrong; a cell of S and one of a book whose rule waits for its left side. Assumes nothing.
use Rattle.std.specs.Prelude.{ℕ, ◌≡◌, refl, Bool, true, false, List, [], ◌∷◌}
use Prim.Native.String.{String}
use Rattle.std.proofs.Math.Option.{Option, none, some}
use Rattle.grammar.specs.Data.Book.{Book}
use Rattle.grammar.specs.Evaluator.Decorated.{no_values, token}
use Rattle.grammar.specs.Evaluator.Machine.{Frame, frame}
use Rattle.grammar.specs.Evaluator.Chains.{stack_value}
use Rattle.grammar.specs.Automaton.FirstSets.{Sets, sets_of}
use Rattle.grammar.specs.Automaton.ReachSets.{reach_sets}
use Rattle.grammar.specs.Formulas.PartialLaws.{partial_at}
use Rattle.grammar.specs.Formulas.Passes.{opens as opens-passes}
use Rattle.grammar.specs.Formulas.FormulaCheck.{check_all, listed, opens as opens-check}
use Rattle.grammar.specs.Formulas.Plan.{fill_cell, opens as opens-plan}
use Rattle.grammar.specs.Format.Parse.{parse_book}
use Rattle.grammar.specs.Cases.CaseBooks.{unlines, change, S, left-recursive, two-lookaheads, two-offsets, set-once, dead_end}
use Rattle.grammar.proofs.Cases.CasesProof.{opens as opens-engine}

-- the items of a book's partial state (S, a)
items : Book → ℕ → ℕ → ℕ → ℕ → Bool
items b S a = let F : Sets = sets_of b.rules in listed (partial_at b F (reach_sets b.rules F) S a)

-- 10, of each book in a list of texts
verdicts : List (List String) → List Bool
verdicts [] = []
verdicts (lines ∷ texts) = elim (parse_book (unlines lines)) [ none ↦ verdicts texts | some b ↦ check_all b (items b) ∷ verdicts texts ]

-- the value of i0 that is set at a state before a terminal, over a stack
cell-of : List String → ℕ → ℕ → List Frame → Option ℕ
cell-of lines S a st = elim (parse_book (unlines lines)) [ none ↦ none | some b ↦ some (fill_cell b (items b S a) st 0) ]

opens : Unit {0}
unfolding items verdicts cell-of stack_value opens-passes opens-check opens-plan opens-engine
opens = tt

passing : verdicts (S ∷ two-lookaheads ∷ set-once ∷ dead_end ∷ change 9 "(inhdef 3 1 i0 (own i0))" left-recursive
    ∷ change 7 "(inhdef 1 3 i0 (val 2))" two-offsets ∷ []) ≡ true ∷ true ∷ true ∷ true ∷ true ∷ true ∷ []
unfolding opens
passing = refl

splitting : verdicts (left-recursive ∷ two-offsets ∷ []) ≡ false ∷ false ∷ []
unfolding opens
splitting = refl

-- t1 100 and t2 5 stand, own was 100 below t2
S-cell : cell-of S 3 2 (frame 1 (λ K. 100) (token 5) 1 ∷ frame 0 no_values (token 100) 0 ∷ []) ≡ some 105
unfolding opens
S-cell = refl

-- rule 3 gives n2 its own value before n2, where t1 100 stands
own-cell : cell-of (change 9 "(inhdef 3 1 i0 (own i0))" left-recursive) 1 2 (frame 0 no_values (token 100) 0 ∷ []) ≡ some 100
unfolding opens
own-cell = refl
