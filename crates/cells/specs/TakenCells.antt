-- The cells of a book that is taken: a plan's lines may be asked for where the stack is as deep as their dots, and the cell that they set is the
-- machine's. Assumes nothing.
use Rattle.std.specs.Prelude.{◌≡◌, ℕ, ◌<◌, ◌≤◌, Bool, List, length}
use Rattle.std.proofs.Common.{◌∙◌, arith}
use mathlib.Core.List.{Memᴰ as Mem}
use Rattle.grammar.specs.Data.Book.{InheritedDefinition, Book}
use Rattle.grammar.specs.Format.Ordered.{Spelled}
use Rattle.grammar.specs.Refusal.{Sound}
use Rattle.grammar.specs.Engine.{tables_of}
use Rattle.grammar.specs.Evaluator.Machine.{Frame, cell}
use Rattle.grammar.specs.Formulas.FormulaCheck as grammar
use Rattle.grammar.specs.Formulas.FormulaCheck.{dot_of, line_at}
use Rattle.grammar.proofs.Formulas.FormulaCheckLaws.{Tells}
use Rattle.grammar.specs.Data.ListLaws.{at-member}
use Rattle.book.specs.Held.{DefinitionsIn}
use Rattle.plans.specs.Planning.{plan}
use Rattle.plans.specs.PlanCell.{planned-cell}
use Rattle.cells.specs.Frames.{cell_value}
use Rattle.cells.specs.DefinitionsAsked.{inherited-asked}
use Rattle.cells.specs.Cells.{LineAsked}
use Rattle.cells.specs.CellFrames.{CellSet}

module _ {b : Book} (s : Sound b) where
  pub line_asked : {definitions : List ℕ} → DefinitionsIn b.inherited_definitions b.synthesized_definitions definitions → (height d : ℕ)
      → d < grammar.definitions b → dot_of (line_at b d) ≤ height → LineAsked b definitions height d
  line_asked D height d h deep =
      let line : InheritedDefinition = line_at b d in
      let m : Mem line b.inherited_definitions = at-member b.inherited_definitions d _ h in
      let there = s.names.inherited-declared line m in
      record {
        asked = inherited-asked D s.limits s.names s.attributes d h;
        position_is = (D.inherited_is d h).position_is;
        attribute_is = (D.inherited_is d h).attribute_is;
        position_low = there.position_there.low;
        attribute_low = omega (arith, there.attribute_there, s.limits.inherited_limit);
        deep = deep;
      }

  -- "Set the top cell's inherited values by the partial state's formulas, 0 where there is none"
  pub cell-taken : Spelled b → (S a : ℕ) (member : ℕ → ℕ → Bool) → Tells b S a member → {states synthesized starts old new : List ℕ} {st : List Frame}
      → CellSet b states synthesized starts st (plan b member) old new → cell_value new (length st) ≡ cell (tables_of b) S a st
  cell-taken spelled S a member tells {st = st} C = λ j K. (C.cell_is K ∙ planned-cell spelled s S a member tells st K) j
