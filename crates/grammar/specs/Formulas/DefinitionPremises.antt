-- What the laws of passes over the inherited attributes' definitions take from conditions 2 to 6, in the form in which they use it.
-- Assumes nothing.
use Rattle.std.specs.Prelude.{ℕ, suc, ◌-◌, ◌≤◌, ◌<◌, ◌≡◌}
use Rattle.std.proofs.Common.{arith, ◌∙◌}
use Rattle.std.proofs.Math.Path.{refl, ap}
use mathlib.Core.List.{List, ◌∷◌, Memᴰ as Mem}
use Rattle.std.proofs.Math.ListN.{length, drop}
use Rattle.std.proofs.Math.Seq.{drop-cons}
use Rattle.grammar.specs.Limits.{MAX_INHERITED, MAX_DEFINITIONS}
use Rattle.grammar.specs.Data.ListLaws.{at-member, member-at}
use Rattle.grammar.specs.Data.Symbol.{Symbol, terminal, nonterminal, right_of, symbol_at, after}
use Rattle.grammar.specs.Data.Term.{Leaves}
use Rattle.grammar.specs.Data.Book.{InheritedDefinition, Book, inherited_owner, inherited_expr}
use Rattle.grammar.specs.Format.Ordered.{Ordered, inherited_key}
use Rattle.grammar.specs.Format.OrderLaws.{ascends-unique}
use Rattle.grammar.specs.Data.DefinitionLaws.{inherited-by}
use Rattle.grammar.specs.Conditions.Meaning.{InheritedOf, WithinLimits, Declared, Owned, Defined, IsInherited}
use Rattle.grammar.specs.Conditions.MeaningLaws.{Reads, inherited_reads, next-defined}
use Rattle.grammar.specs.Formulas.Slots.{attributes}
use Rattle.grammar.specs.Formulas.FormulaCheck.{no_definition, dot_of, definitions, line_at}

-- a line of the definitions
pub record LineRight (b : Book) (line : InheritedDefinition) : Type 0 where
  -- 2: no other line has its key
  pub expression_is : inherited_expr b line.rule (suc (dot_of line)) line.attribute ≡ line.expression
  -- 4 and 5: the attribute is of the symbol behind the dot, and what is read as own is of the left side
  pub attribute_there : IsInherited b line.attribute
  pub before_owner : (β : List Symbol) × (after b.rules line.rule (dot_of line) ≡ nonterminal (inherited_owner b line.attribute) ∷ β)
  pub leaves_read : Leaves (Reads b line.rule line.position) line.expression

pub record DefinitionPremises (b : Book) : Type 0 where
  -- 3
  pub attributes_limit : attributes b ≤ MAX_INHERITED
  pub definitions_limit : definitions b ≤ MAX_DEFINITIONS
  pub line_right : (d : ℕ) → d < definitions b → LineRight b (line_at b d)
  -- 6: each inherited attribute of the symbol behind a dot has a line
  pub next_line : (P D B K : ℕ) (β : List Symbol) → after b.rules P D ≡ nonterminal B ∷ β → inherited_owner b K ≡ B
      → (d : ℕ) × (d < definitions b) × InheritedOf P (suc D) K (line_at b d)

module _ {b : Book} (ordered : Ordered b) (limits : WithinLimits b) (declared : Declared b) (owned : Owned b) (defined : Defined b) where
  -- the expression found for a line's key is that line's
  line-expression : (line : InheritedDefinition) → Mem line b.inherited_definitions
      → inherited_expr b line.rule line.position line.attribute ≡ line.expression
  unfolding inherited_key
  line-expression line m =
      inherited-by (λ e. e ≡ line.expression) line.rule line.position line.attribute b.inherited_definitions
      (λ none. absurd (none line m (refl, refl, refl)))
      (λ d n (p, j, k). ap (λ x. x.expression) (ascends-unique ordered.inherited n m (rw (p, j, k))))

  line_before : (line : InheritedDefinition) → Mem line b.inherited_definitions
      → after b.rules line.rule (dot_of line)
      ≡ nonterminal (inherited_owner b line.attribute) ∷ drop (suc (dot_of line)) (right_of b.rules line.rule)
  unfolding symbol_at
  line_before line m =
      let place = (declared.inherited-declared line m).position_there in
      let low : 1 ≤ line.position = place.low in
      let high : line.position ≤ length (right_of b.rules line.rule) = place.high in
      drop-cons (right_of b.rules line.rule) (dot_of line) (terminal 0) (omega arith)
      ∙ ap (λ X. X ∷ drop (suc (dot_of line)) (right_of b.rules line.rule)) (owned.inherited_owned line m).target_owns

  line_right : (line : InheritedDefinition) → Mem line b.inherited_definitions → LineRight b line
  line_right line m =
      let low : 1 ≤ line.position = (declared.inherited-declared line m).position_there.low in
      let dot : suc (line.position - 1) ≡ line.position = omega arith in
      record {
        expression_is = rw dot (line-expression line m);
        attribute_there = (declared.inherited-declared line m).attribute_there;
        before_owner = (drop (suc (dot_of line)) (right_of b.rules line.rule), line_before line m);
        leaves_read = rw (← line-expression line m) (inherited_reads declared owned line.rule line.position line.attribute);
      }

  pub definition-premises : DefinitionPremises b
  definition-premises = record {
    attributes_limit = limits.inherited_limit;
    definitions_limit = omega (arith, limits.definitions_limit);
    line_right = λ d h. line_right (line_at b d) (at-member b.inherited_definitions d no_definition h);
    next_line = λ P D B K β h o.
        let (line, m, key) = next-defined limits declared defined P D B K h o in
        let (d, l, e) = member-at b.inherited_definitions no_definition m in
        (d, l, rw e key);
  }
