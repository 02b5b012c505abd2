-- The one-formula check over the tables decides LR-attributed (10): "all chains of one partial state that end before the same nonterminal give each of
-- its attributes the same formula". Assumes what is right about the book's sets (ItemsRight) and conditions 3 to 5 and 7 (FormulaPremises).
use Prim.Native.Nat.{ℕ, zero, suc, ◌+◌, ◌≤◌, ◌<◌, zero-le}
use Rattle.std.proofs.Common.{arith}
use Rattle.std.proofs.Math.Decide.{ℕ_discrete}
use Rattle.std.specs.Prelude.{◌≡◌, Bool, true, false, List}
use Rattle.grammar.specs.Conditions.Decides.{Decides, true-decides, equivalent, then-decides}
use Rattle.grammar.specs.Data.Book.{Book}
use Rattle.grammar.specs.Formulas.Formula.{LrAttributed}
use Rattle.grammar.specs.Formulas.ChainLaws.{OneFormula}
use Rattle.grammar.specs.Automaton.FirstSets.{Sets}
use Rattle.grammar.specs.Automaton.CoreItems.{core_items}
use Rattle.grammar.specs.Automaton.ItemsRight.{ItemsRight}
use Rattle.grammar.specs.Automaton.Compiled.{tabulate, items_table, partials_at, parts_table, agrees_part, one_formula_in, one_formula}
use Rattle.grammar.specs.Formulas.PartialLaws.{partial_at}
use Rattle.grammar.proofs.Formulas.PartialLaws.{partial-items}
use Rattle.grammar.specs.Formulas.FormulaPremises.{FormulaPremises}
use Rattle.grammar.proofs.Formulas.SlotsLaws.{agrees-decides-one-formula}

-- Q holds of the n numbers from i
abbrev From : (ℕ → Type 0) → ℕ → ℕ → Type 0
From Q i n = (k : ℕ) → i ≤ k → k < i + n → Q k

from-none : {Q : ℕ → Type 0} (i : ℕ) → Decides true (From Q i zero)
from-none i = true-decides λ k h l. absurd (omega arith)

from_next : {Q : ℕ → Type 0} (i n : ℕ) {s t : Bool} → Decides s (Q i) → Decides t (From Q (suc i) n)
    → Decides (elim s [ true ↦ t | false ↦ false ]) (From Q i (suc n))
from_next {Q} i n d e = equivalent join (λ h. (h i (omega arith) (omega arith), λ k p l. h k (omega arith) (omega arith))) (then-decides d e)
  where
    join : Q i × From Q (suc i) n → From Q i (suc n)
    join h k p l = by (ℕ_discrete k i)
      where
        by : Dec (k ≡ i) → Q k
        by (yes e) = rw e h.0
        by (no d) = h.1 k (omega arith) (omega arith)

module _ {b : Book} {F : Sets} {R : List ℕ} (right : ItemsRight b F R) (H : FormulaPremises b) where
  agrees_part-decides : (S a : ℕ) → Decides (agrees_part b (partials_at b (partial_at b F R S a))) (OneFormula b S a)
  unfolding agrees_part partials_at
  agrees_part-decides S a = agrees-decides-one-formula b H S a (partial_at b F R S a) (partial-items right S a)

  one_formula_in-decides : (S i n : ℕ) → Decides (one_formula_in b (tabulate (λ a. partials_at b (partial_at b F R S a)) i n)) (From (OneFormula b S) i n)
  unfolding one_formula_in tabulate
  one_formula_in-decides S i zero = from-none i
  one_formula_in-decides S i (suc n) = from_next i n (agrees_part-decides S i) (one_formula_in-decides S (suc i) n)

  -- the terminals t0..tT
  abbrev EachTerminal : ℕ → Type 0
  EachTerminal S = From (OneFormula b S) 0 (suc b.terminals)

  states-decide : (i n : ℕ) → Decides (one_formula b (parts_table b F R (tabulate (core_items b F) i n))) (From EachTerminal i n)
  unfolding one_formula parts_table tabulate
  states-decide i zero = from-none i
  states-decide i (suc n) = from_next i n (one_formula_in-decides i 0 (suc b.terminals)) (states-decide (suc i) n)

  -- 10
  pub one_formula-decides : Decides (one_formula b (parts_table b F R (items_table b F))) (LrAttributed b)
  unfolding items_table
  one_formula-decides = equivalent everywhere (λ h S p l a q m. h S a) (states-decide 0 b.states)
    where
      -- there are chains only at the states and terminals of the book
      everywhere : From EachTerminal 0 b.states → LrAttributed b
      everywhere h S a P D c P' D' c' B K β β' chain =
          let state : S < b.states = H.chain_state S a P D c chain in
          let terminal : a ≤ b.terminals = H.chain_terminal S a P D c chain in
          h S zero-le (omega arith) a zero-le (omega arith) P D c P' D' c' B K β β' chain
