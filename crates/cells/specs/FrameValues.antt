-- The values of definitions over the stacks in arrays are those over the frames that the arrays hold: of an inherited attribute's definition on top of
-- the frames, of a synthesized one's where its right side was popped. Assumes nothing.
use Rattle.std.specs.Prelude.{◌≡◌, ℕ, ◌+◌, ◌-◌, ◌≤◌, List, length}
use Rattle.std.proofs.Math.Path.{sym, ap}
use Rattle.std.proofs.Common.{arith}
use Rattle.grammar.specs.Data.Term.{eval, Leaves}
use Rattle.grammar.specs.Data.TermLaws.{eval-same}
use Rattle.grammar.specs.Data.Book.{Place, own, at, val, InheritedDefinition, Book, synthesized_expr}
use Rattle.grammar.specs.Evaluator.Decorated.{place_value, synthesized_from}
use Rattle.grammar.specs.Evaluator.Machine.{Frame, Popped, inherited_at, result_at}
use Rattle.grammar.specs.Evaluator.Chains.{stack_value}
use Rattle.grammar.specs.Formulas.FormulaCheck.{dot_of}
use Rattle.grammar.specs.Formulas.Plan.{value_at, value_of}
use Rattle.cells.specs.Frames.{cell_value, ResultIn, FramesIn, PoppedIn}
use Rattle.cells.specs.FramesLaws.{inherited-below, result-below}
use Rattle.cells.specs.Values.{place_in, MayRead}

module _ {states inherited synthesized starts : List ℕ} where
  module _ {st : List Frame} (F : FramesIn states inherited synthesized starts st) (values : List ℕ)
      (top : (K : ℕ) → value_at values K ≡ cell_value inherited (length st) K) where
    symbol : (dot : ℕ) → dot ≤ length st → (J : ℕ) → 1 ≤ J → J ≤ dot → ResultIn (result_at (dot - J) st) synthesized (length st - dot + J - 1)
    symbol dot h J low high =
        let e : length st - 1 - (dot - J) ≡ length st - dot + J - 1 = omega arith in
        rw e at (result-below F (dot - J) (omega arith))

    -- where the top cell's words are `values`, a leaf has the value that it has over the frames
    place_is : (dot : ℕ) → dot ≤ length st → (place : Place) → MayRead dot place
        → place_in (length st - dot) inherited synthesized place ≡ stack_value dot (inherited_at dot (value_at values) st) st place
    unfolding stack_value
    place_is dot h (own K) r =
        let same : value_at values ≡ cell_value inherited (length st) = λ j K. top K j in
        rw (same, inherited-below F dot h)
    place_is dot h (at J K) (low, high, k) = let R = symbol dot h J low high in sym (R.attributes_are K)
    place_is dot h (val J) (low, high) = let R = symbol dot h J low high in sym R.value_is

    pub inherited-value : (line : InheritedDefinition) → dot_of line ≤ length st → Leaves (MayRead (dot_of line)) line.expression
        → eval line.expression (place_in (length st - dot_of line) inherited synthesized) ≡ value_of st values line
    unfolding value_of
    inherited-value line h r = eval-same r _ _ (place_is (dot_of line) h)

  module _ {h n p : ℕ} {x : Popped} (P : PoppedIn states inherited synthesized starts h n p x) where
    -- a leaf has the value that it has over what was popped
    popped-place : (place : Place) → MayRead n place → place_in h inherited synthesized place ≡ place_value P.cell P.results place
    unfolding place_value
    popped-place (own K) r = ap (λ i. i K) (sym P.cell_is)
    popped-place (at J K) (low, high, k) = sym ((P.result_in J low high).attributes_are K)
    popped-place (val J) (low, high) = sym (P.result_in J low high).value_is

    pub synthesized-value : (b : Book) (R K : ℕ) → Leaves (MayRead n) (synthesized_expr b R K)
        → eval (synthesized_expr b R K) (place_in h inherited synthesized) ≡ synthesized_from b R P.cell P.results K
    unfolding synthesized_from
    synthesized-value b R K r = eval-same r _ _ popped-place
