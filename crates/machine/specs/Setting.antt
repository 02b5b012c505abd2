-- The top cell is set by the plan of the partial state: the plan's lines may be asked for, since the frames are a path of the states, and the cell is the
-- machine's. Assumes that the book is taken.
use Rattle.std.specs.Prelude.{ℕ, ◌+◌, ◌*◌, ◌≤◌, ◌<◌, ◌≡◌, Bool, List, length, get_or}
use Rattle.std.proofs.Common.{sym, ◌∙◌, arith}
use Rattle.grammar.specs.Data.Book.{Book}
use Rattle.grammar.specs.Format.Ordered.{Spelled}
use Rattle.grammar.specs.BookFacts.{small-book}
use Rattle.grammar.specs.Automaton.FirstSets.{sets_of}
use Rattle.grammar.specs.Automaton.ReachSets.{reach_sets}
use Rattle.grammar.specs.Automaton.ItemsRightLaws.{book-items-right}
use Rattle.grammar.specs.Formulas.PartialLaws.{partial_at}
use Rattle.grammar.proofs.Formulas.PartialLaws.{partial-items}
use Rattle.grammar.specs.Formulas.FormulaCheck.{dot_of, line_at, listed}
use Rattle.grammar.proofs.Formulas.FormulaCheckLaws.{Tells}
use Rattle.grammar.proofs.Formulas.FormulaCheckAll.{listed-tells}
use Rattle.grammar.specs.Evaluator.Tree.{Token, next}
use Rattle.grammar.specs.Evaluator.Machine.{Frame, Config}
use Rattle.grammar.proofs.Evaluator.TakenPremises.{premises}
use Rattle.grammar.specs.Refusal.{Sound}
use Rattle.grammar.specs.Engine.{tables_of}
use Rattle.book.specs.Held.{DefinitionsIn}
use Rattle.plans.specs.PlanningLaws.{plan-short, plan-line}
use Rattle.plans.specs.PlanRows.{PlanRow}
use Rattle.plans.specs.Plans.{plan_of, PlansIn}
use Rattle.cells.specs.Frames.{FramesIn}
use Rattle.cells.specs.Cells.{cleared, lines_set, LineAsked, PlanAsked}
use Rattle.cells.specs.CellFrames.{CellSet, cell_set}
use Rattle.cells.specs.TakenCells.{line_asked, cell-taken}
use Rattle.stack.specs.declared.top.Top.{Top}
use Rattle.stack.specs.Path.{Path, deep}
use Rattle.stack.specs.Standing.{BookIn, ConfigIn, stands, CellIn, frames_of, state_of, kind_of}

-- the frames of a path, on the stacks of some states and starts, over which the top cell is to be set
pub record TopAsked (b : Book) (definitions inherited synthesized : List ℕ) (state height : ℕ) (states starts : List ℕ) (st : List Frame) : Type 0 where
  pub spelled : Spelled b
  pub sound : Sound b
  pub definitions_in : DefinitionsIn b.inherited_definitions b.synthesized_definitions definitions
  pub frames_in : FramesIn states inherited synthesized starts st
  pub height_is : height ≡ length st
  pub path : Path (tables_of b) state st

-- the plans' memory and the cell after it is set
pub record TopSet (b : Book) (slots lists old new synthesized : List ℕ) (state kind : ℕ) (states starts : List ℕ) (st : List Frame) : Type 0 where
  pub plans_in : PlansIn b slots lists
  pub cell_in : CellSet b states synthesized starts st (plan_of b state kind) old new

-- the test of the items of a partial state
abbrev partial_items : Book → ℕ → ℕ → ℕ → ℕ → Bool
partial_items b S a = listed (partial_at b (sets_of b.rules) (reach_sets b.rules (sets_of b.rules)) S a)

partial-tells : {b : Book} → Spelled b → Sound b → (S a : ℕ) → Tells b S a (partial_items b S a)
partial-tells {b} spelled sound S a =
    listed-tells _ (partial-items (book-items-right b (small-book spelled.ordered sound.limits sound.names)) S a)

module _ {b : Book} {definitions inherited synthesized : List ℕ} {state height : ℕ} {states starts : List ℕ} {st : List Frame}
    (A : TopAsked b definitions inherited synthesized state height states starts st) (a : ℕ) where
  plan-deep : (i : ℕ) → i < length (plan_of b state a) → LineAsked b definitions (length st) (get_or (plan_of b state a) i 0)
  plan-deep i l =
      let d : ℕ = get_or (plan_of b state a) i 0 in
      let L = plan-line b (partial_items b state a) i l in
      let (c, (closure, reaches)) = (partial-tells A.spelled A.sound state a (line_at b d).rule (dot_of (line_at b d))).sound L.item_in in
      line_asked A.sound A.definitions_in (length st) d L.line_low
      (deep b (tables_of b) (premises A.spelled A.sound) A.path (dot_of (line_at b d)) closure)

  pub top-asked : {lists : List ℕ} {from n : ℕ} → PlanRow (plan_of b state a) lists from n → PlanAsked b definitions lists from n height (plan_of b state a)
  top-asked R = record { row_is = R; line_asked = λ i l. rw A.height_is (plan-deep i l) }

  pub top-short : {lists : List ℕ} {from n : ℕ} → PlanRow (plan_of b state a) lists from n → n ≤ 16
  top-short R = omega (arith, R.count_is, plan-short b (partial_items b state a))

  pub top_set : {slots lists new : List ℕ} → 16 * height + 16 ≤ length inherited → PlansIn b slots lists
      → new ≡ lines_set b synthesized height (plan_of b state a) (cleared (16 * height) 16 inherited)
      → TopSet b slots lists inherited new synthesized state a states starts st
  top_set long M e = record {
    plans_in = M;
    cell_in = rw (e, A.height_is) (cell_set b definitions (plan_of b state a) inherited A.frames_in (omega (arith, A.height_is)) plan-deep);
  }

-- ---- a configuration whose top cell is set

module _ {b : Book} {rules definitions table : List ℕ} (B : BookIn b rules definitions table) {ks : List Token}
    {states inherited synthesized starts rows : List ℕ} {top : Top} where
  pub config-asked : {c : Config} {state height : ℕ} → ConfigIn b ks states inherited synthesized starts rows top c → state ≡ state_of c → height ≡ top.depth
      → TopAsked b definitions inherited synthesized state height states starts (frames_of c)
  config-asked (stands C) s h = record {
    spelled = B.spelled;
    sound = B.sound;
    definitions_in = B.definitions_in;
    frames_in = C.frames_in;
    height_is = h ∙ C.depth_is;
    path = rw s C.path;
  }

  module _ {slots lists new : List ℕ} {state kind : ℕ} where
    pub config-set : {c : Config} → ConfigIn b ks states inherited synthesized starts rows top c → state ≡ state_of c → kind ≡ kind_of c
        → TopSet b slots lists inherited new synthesized state kind states starts (frames_of c) → ConfigIn b ks states new synthesized starts rows top c
    config-set (stands C) s k T = stands (record {
      frames_in = T.cell_in.frames_in;
      state_is = C.state_is;
      rows_in = C.rows_in;
      left_is = C.left_is;
      depth_is = C.depth_is;
      count_is = C.count_is;
      position_is = C.position_is;
      depth_low = C.depth_low;
      count_low = C.count_low;
      position_low = C.position_low;
      path = C.path;
    })

    pub config-cell : {c : Config} → ConfigIn b ks states inherited synthesized starts rows top c → state ≡ state_of c → kind ≡ kind_of c
        → TopSet b slots lists inherited new synthesized state kind states starts (frames_of c) → CellIn b new c
    config-cell (stands {S = S} {z = z} C) s k T =
        sym (cell-taken B.sound B.spelled S (next z) (partial_items b S (next z)) (partial-tells B.spelled B.sound S (next z))
        (rw (s, k) at T.cell_in))
