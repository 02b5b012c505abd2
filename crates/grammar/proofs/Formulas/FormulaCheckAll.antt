-- The check of all partial states decides LR-attributed (10) and so answers what the tables' check answers; terminals with the same items have the same
-- answer. Laws for loops besides. Assumes nothing.
use Prim.Native.Nat.{ℕ, zero, suc, ◌≤◌, ◌<◌}
use native.Mathlib.Omega.{arith}
use Rattle.std.proofs.Math.Decide.{ℕ_discrete}
use Rattle.std.specs.Prelude.{◌≡◌, Bool, get_or, set}
use Rattle.std.proofs.Math.Path.{refl, ap}
use Rattle.std.proofs.Common.{sym, ◌∙◌}
use Rattle.std.proofs.Math.Bool.{true, false}
use mathlib.Core.List.{List}
use Rattle.grammar.specs.Conditions.Decides.{Decides, decides-same, equivalent, eq-decides, and-decides, then-decides, any-decides, all_below}
use Rattle.grammar.specs.Conditions.DecidesSteps.{Some, below-zero}
use Rattle.grammar.specs.Automaton.TestLaws.{true-false}
use Rattle.grammar.specs.Data.Book.{Book}
use Rattle.grammar.specs.Format.Ordered.{Ordered}
use Rattle.grammar.specs.Conditions.Meaning.{WithinLimits, Declared, Owned, Defined}
use Rattle.grammar.specs.Automaton.States.{KernelRules}
use Rattle.grammar.specs.Automaton.Items.{Partial}
use Rattle.grammar.specs.Formulas.Formula.{LrAttributed}
use Rattle.grammar.specs.Formulas.ChainLaws.{chain-partial, chain-to, OneFormula}
use Rattle.grammar.specs.Automaton.FirstSets.{Sets, sets_of}
use Rattle.grammar.specs.Automaton.ReachSets.{reach_sets}
use Rattle.grammar.specs.Automaton.CoreItems.{Core, core}
use Rattle.grammar.specs.Automaton.ItemsRight.{ItemsRight}
use Rattle.grammar.specs.Automaton.ItemsRightLaws.{book-items-right}
use Rattle.grammar.specs.BookFacts.{small-book}
use Rattle.grammar.specs.Formulas.Slots.{Slots, ready}
use Rattle.grammar.specs.Formulas.PartialLaws.{PartialItems}
use Rattle.grammar.proofs.Formulas.PartialLaws.{partial-items}
use Rattle.grammar.specs.Formulas.FormulaPremises.{FormulaPremises, formula-premises}
use Rattle.grammar.specs.Automaton.Compiled.{items_table, parts_table, one_formula}
use Rattle.grammar.proofs.Formulas.OneFormulaLaws.{one_formula-decides}
use Rattle.grammar.specs.Formulas.Passes.{visits, passes, passes_same, passes-turn, passes-end}
use Rattle.grammar.specs.Formulas.FormulaCheck.{dot_of, Progress, progress, split, advance, unsplit, fresh, enter, formula_of, definitions, line_at, due, visit}
use Rattle.grammar.specs.Formulas.FormulaCheck.{ended, check, check_all, is_item, listed}
use Rattle.grammar.specs.Formulas.DefinitionPremises.{DefinitionPremises, definition-premises}
use Rattle.grammar.proofs.Formulas.FormulaCheckSteps.{holds-decides, Long, growing}
use Rattle.grammar.proofs.Formulas.FormulaCheckLaws.{Tells, check-decides}
use Rattle.grammar.specs.Formulas.FormulaCheckAll.{SameItems}

-- the tests of the numbers below n
below-decides : {f : ℕ → Bool} {P : ℕ → Type 0} (n : ℕ) → ((i : ℕ) → i < n → Decides (f i) (P i)) → Decides (all_below n f) ((i : ℕ) → i < n → P i)
unfolding all_below
below-decides zero d = below-zero
below-decides {f} {P} (suc n) d =
    equivalent join (λ h. (λ i l. h i (omega arith), h n (omega arith))) (then-decides (below-decides n λ i l. d i (omega arith)) (d n (omega arith)))
  where
    join : (((i : ℕ) → i < n → P i) × P n) → (i : ℕ) → i < suc n → P i
    join h i l = by (ℕ_discrete i n)
      where
        by : Dec (i ≡ n) → P i
        by (yes e) = rw e h.1
        by (no m) = h.0 i (omega arith)

-- one that fails settles it
pub fails-below : (f : ℕ → Bool) (i n : ℕ) → i < n → f i ≡ false → all_below n f ≡ false
fails-below f i n l e = by (all_below n f) refl
  where
    by : (t : Bool) → all_below n f ≡ t → t ≡ false
    by false h = refl
    by true h = true-false ((below-decides {P = λ i. f i ≡ true} n (λ i k. holds-decides)).sound h i l) e

-- ---------------------------------------------------------------- tests that tell the items

module _ {b : Book} {S a : ℕ} where
  -- the test of a list that has the partial state's items
  pub listed-tells : (items : List Core) → PartialItems b S a items → Tells b S a (listed items)
  unfolding listed is_item
  listed-tells items right P D = equivalent to from (any-decides decides items)
    where
      decides : (c : Core) → Decides (is_item P D c) ((M : ℕ) × (c ≡ core P D M))
      decides (core Q E M) =
          equivalent (λ (p, d). (M, rw (p, d))) (λ (N, e). (let p : Q ≡ P = cc in p, let d : E ≡ D = cc in d)) (and-decides (eq-decides Q P) (eq-decides E D))

      to : Some (λ c. (M : ℕ) × (c ≡ core P D M)) items → (c : ℕ) × Partial b S a P D c
      to (x, m, (M, e)) = let (c, chain) = right.item_chain P D M (rw e at m) in (c, chain-partial b chain)

      from : (c : ℕ) × Partial b S a P D c → Some (λ c. (M : ℕ) × (c ≡ core P D M)) items
      from (c, (closure, reaches)) = let (M, m) = right.chain_item P D c (chain-to b closure reaches) in (core P D M, m, (M, refl))

-- ---------------------------------------------------------------- terminals with the same items

module _ (b : Book) (member other : ℕ → ℕ → Bool) where
  due-same : SameItems b member other → (d : ℕ) → d < definitions b → (slots : Slots) → due b member slots (line_at b d) ≡ due b other slots (line_at b d)
  unfolding due
  due-same same d l slots = ap (λ t. elim t [ true ↦ ready b slots (line_at b d).rule (dot_of (line_at b d)) | false ↦ false ]) (same d l)

  visit-same : SameItems b member other → (d : ℕ) → d < definitions b → (s : Progress) → visit b member d s ≡ visit b other d s
  unfolding visit
  visit-same same d l split = refl
  visit-same same d l (progress slots done) =
      ap (λ t. elim (get_or done d true) [
        | true ↦ progress slots done
        | false ↦
            elim t [
              | true ↦ enter slots (set done d true) (line_at b d).attribute (formula_of slots (line_at b d))
              | false ↦ progress slots done
            ]
      ]) (due-same same d l slots)

  pub check-same : SameItems b member other → check b member ≡ check b other
  unfolding check ended
  check-same same = ap unsplit (passes_same (visit b member) (visit b other) advance (definitions b) (visit-same same) fresh)

-- ---------------------------------------------------------------- for a loop

module _ (b : Book) (member : ℕ → ℕ → Bool) where
  -- a split in a pass stays
  pub split_stays : (m k : ℕ) (s : Progress) → visits (visit b member) m s ≡ split → m ≤ k → visits (visit b member) k s ≡ split
  unfolding visits visit
  split_stays m zero s e h = let z : m ≡ 0 = omega arith in rw z at e
  split_stays m (suc k) s e h = by (ℕ_discrete m (suc k)) (split_stays m k s e)
    where
      by : Dec (m ≡ suc k) → (m ≤ k → visits (visit b member) k s ≡ split) → visits (visit b member) (suc k) s ≡ split
      by (yes p) below = rw p at e
      by (no n) below = ap (visit b member k) (below (omega arith))

  -- and ends the passes
  pub split-ends : (s : Progress) → Long s → visits (visit b member) (definitions b) s ≡ split
      → passes (visit b member) advance (definitions b) s ≡ split
  split-ends s long e =
      sym (passes-turn (growing b member) s long) ∙ ap (passes (visit b member) advance (definitions b)) e
      ∙ passes-end (growing b member) split tt (ap advance (split_stays 0 (definitions b) split (unfold visits in refl) (omega arith)))

-- ---------------------------------------------------------------- all partial states

module _ {b : Book} {F : Sets} {R : List ℕ} (right : ItemsRight b F R) (H : FormulaPremises b) (L : DefinitionPremises b)
    (members : ℕ → ℕ → ℕ → ℕ → Bool) (tells : (S a : ℕ) → S < b.states → a ≤ b.terminals → Tells b S a (members S a)) where
  pub check_all-decides : Decides (check_all b members) (LrAttributed b)
  unfolding check_all
  check_all-decides =
      equivalent everywhere (λ h S l a m. h S a) (below-decides b.states λ S l. below-decides (suc b.terminals) λ a m. one S a l (omega arith))
    where
      one : (S a : ℕ) → S < b.states → a ≤ b.terminals → Decides (check b (members S a)) (OneFormula b S a)
      one S a l m = check-decides b H L S a _ (partial-items right S a) (members S a) (tells S a l m)

      -- there are chains only at the states and terminals of the book
      everywhere : ((S : ℕ) → S < b.states → (a : ℕ) → a < suc b.terminals → OneFormula b S a) → LrAttributed b
      everywhere h S a P D c P' D' c' B K β β' chain =
          let terminal : a ≤ b.terminals = H.chain_terminal S a P D c chain in
          h S (H.chain_state S a P D c chain) a (omega arith) P D c P' D' c' B K β β' chain

  -- the tables' check answers the same
  pub check_all-one_formula : check_all b members ≡ one_formula b (parts_table b F R (items_table b F))
  check_all-one_formula = decides-same check_all-decides (one_formula-decides right H)

-- ---------------------------------------------------------------- from the conditions 2 to 7

module _ {b : Book} (ordered : Ordered b) (limits : WithinLimits b) (declared : Declared b) (owned : Owned b) (defined : Defined b)
    (kernels : KernelRules b) where
  right-items : ItemsRight b (sets_of b.rules) (reach_sets b.rules (sets_of b.rules))
  right-items = book-items-right b (small-book ordered limits declared)

  pub book-check_all : (members : ℕ → ℕ → ℕ → ℕ → Bool) → ((S a : ℕ) → S < b.states → a ≤ b.terminals → Tells b S a (members S a))
      → check_all b members ≡ one_formula b (parts_table b (sets_of b.rules) (reach_sets b.rules (sets_of b.rules)) (items_table b (sets_of b.rules)))
  book-check_all = check_all-one_formula right-items (formula-premises limits declared owned kernels) (definition-premises ordered limits declared owned defined)
