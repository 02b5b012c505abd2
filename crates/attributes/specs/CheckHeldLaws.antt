-- What the one-formula check asks of a book, from conditions 2 to 6. Assumes nothing.
use Rattle.std.specs.Prelude.{ℕ, zero, suc, ◌*◌, ◌<◌, ◌≤◌, List, length}
use Rattle.std.proofs.Common.{arith}
use Rattle.grammar.specs.Data.Symbol.{left_of, right_of}
use Rattle.grammar.specs.Data.Book.{Book}
use Rattle.grammar.specs.Format.Ordered.{Ordered}
use Rattle.grammar.specs.Conditions.Meaning.{WithinLimits, Declared, Owned, Defined}
use Rattle.grammar.specs.Conditions.MeaningLaws.{right-length}
use Rattle.grammar.specs.Formulas.Slots.{attributes}
use Rattle.grammar.specs.Formulas.FormulaCheck as grammar
use Rattle.grammar.specs.Formulas.FormulaCheck.{no_definition, line_at}
use Rattle.grammar.specs.Formulas.DefinitionPremises.{definition-premises}
use Rattle.grammar.specs.Data.ListLaws.{at-member}
use Rattle.book.specs.Held.{RulesIn, DefinitionsIn}
use Rattle.attributes.specs.Owned.{OwnedIn}
use Rattle.attributes.specs.Checking.{LineIn, CheckHeld}

module _ {b : Book} (ordered : Ordered b) (limits : WithinLimits b) (declared : Declared b) (owned : Owned b) (defined : Defined b) where
  line_right : (d : ℕ) → d < grammar.definitions b → LineIn b d
  line_right d l =
      let m = at-member b.inherited_definitions d no_definition l in
      let there = declared.inherited-declared (line_at b d) m in
      let low : 1 ≤ (line_at b d).position = there.position_there.low in
      let high : (line_at b d).position ≤ length (right_of b.rules (line_at b d).rule) = there.position_there.high in
      record {
        rule_there = there.rule_there;
        position_low = low;
        position_high = omega (arith, high, right-length limits (line_at b d).rule);
        few_nodes = limits.inherited_nodes (line_at b d) m;
      }

  left-right : (P : ℕ) → P < length b.rules → left_of b.rules P < 32
  left-right zero l = omega (arith, declared.start_left)
  left-right (suc P) l = omega (arith, (declared.left_sides (suc P) (omega arith) l).high, limits.nonterminals_limit.high)

  pub check-held : {definitions rules sets masks : List ℕ} → DefinitionsIn b.inherited_definitions b.synthesized_definitions definitions
      → RulesIn b.rules rules → OwnedIn b.inherited_owners (attributes b) sets → 9 * length b.rules ≤ length masks → CheckHeld b definitions rules sets masks
  check-held D R O m = record {
    definitions_in = D;
    rules_in = R;
    owned_in = O;
    masks_long = m;
    premises = definition-premises ordered limits declared owned defined;
    line_in = line_right;
    left_low = left-right;
  }
