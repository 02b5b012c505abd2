-- The definitions of a book that meets conditions 2 to 5 may be asked for: each stands in its line and reads what is in reach. Assumes nothing.
use Rattle.std.specs.Prelude.{◌≡◌, ℕ, ◌+◌, ◌-◌, ◌<◌, List, length, refl}
use Rattle.std.proofs.Common.{ap, arith}
use mathlib.Core.List.{Memᴰ as Mem}
use Rattle.grammar.specs.Data.Symbol.{right_of}
use Rattle.grammar.specs.Data.LeavesLaws.{leaves_map, leaves-join}
use Rattle.grammar.specs.Data.Book.{Place, own, at, val, InheritedDefinition, SynthesizedDefinition, Book, synthesized_expr}
use Rattle.grammar.specs.Data.DefinitionLaws.{synthesized-by}
use Rattle.grammar.specs.Format.Ordered.{Ordered, synthesized_key}
use Rattle.grammar.specs.Format.OrderLaws.{ascends-unique}
use Rattle.grammar.specs.Conditions.Meaning.{WithinLimits, DeclaredPlace, Declared, Before, Owned}
use Rattle.grammar.specs.Formulas.FormulaCheck.{dot_of, line_at}
use Rattle.grammar.specs.Data.ListLaws.{at-member}
use Rattle.book.specs.Held.{DefinitionsIn, synthesized_at}
use Rattle.formulas.specs.Steps.{step_is, inherited-in}
use Rattle.cells.specs.Values.{MayRead, Asked}

-- what is declared in a rule is in reach: left of a position, or on the whole right side
module _ {b : Book} (limits : WithinLimits b) where
  reads_before : (P J : ℕ) (place : Place) → DeclaredPlace b P place × Before J place → MayRead (J - 1) place
  reads_before P J (own K) (k, l) = omega (arith, limits.inherited_limit)
  reads_before P J (at I K) ((i, k), l) = (i.low, omega arith, omega (arith, limits.synthesized_limit))
  reads_before P J (val I) (i, l) = (i.low, omega arith)

  reads_whole : (P : ℕ) (place : Place) → DeclaredPlace b P place → MayRead (length (right_of b.rules P)) place
  reads_whole P (own K) k = omega (arith, limits.inherited_limit)
  reads_whole P (at I K) (i, k) = (i.low, i.high, omega (arith, limits.synthesized_limit))
  reads_whole P (val I) i = (i.low, i.high)

module _ {b : Book} {definitions : List ℕ} (D : DefinitionsIn b.inherited_definitions b.synthesized_definitions definitions)
    (limits : WithinLimits b) (declared : Declared b) where
  -- an inherited attribute's definition, by its line
  pub inherited-asked : Owned b → (d : ℕ) → d < length b.inherited_definitions → Asked definitions d (dot_of (line_at b d)) (line_at b d).expression
  inherited-asked owned d h =
      let line : InheritedDefinition = line_at b d in
      let m : Mem line b.inherited_definitions = at-member b.inherited_definitions d _ h in
      record {
        stands = inherited-in D d h (limits.inherited_nodes line m);
        reads =
            leaves_map (reads_before limits line.rule line.position)
            (leaves-join (declared.inherited-declared line m).leaves_there (owned.inherited_owned line m).leaves_before);
      }

  -- a synthesized attribute's definition, by its number among them
  pub synthesized-asked : (i : ℕ) → i < length b.synthesized_definitions
      → let d : SynthesizedDefinition = synthesized_at b.synthesized_definitions i in
      Asked definitions (length b.inherited_definitions + i) (length (right_of b.rules d.rule)) d.expression
  synthesized-asked i h =
      let d : SynthesizedDefinition = synthesized_at b.synthesized_definitions i in
      let m : Mem d b.synthesized_definitions = at-member b.synthesized_definitions i _ h in
      record {
        stands = record {
          long = omega (arith, D.long, D.fits);
          few = limits.synthesized_nodes d m;
          nodes_is = (D.synthesized_is i h).nodes_is;
          steps_are = λ n l. step_is ((D.synthesized_is i h).node_is n l (omega (arith, limits.synthesized_nodes d m)));
        };
        reads = leaves_map (reads_whole limits d.rule) (declared.synthesized-declared d m).leaves_there;
      }

-- no other line has its key
pub synthesized-expression : {b : Book} → Ordered b → (i : ℕ) → i < length b.synthesized_definitions
    → let d : SynthesizedDefinition = synthesized_at b.synthesized_definitions i in synthesized_expr b d.rule d.attribute ≡ d.expression
unfolding synthesized_key
synthesized-expression {b} ordered i h =
    let d : SynthesizedDefinition = synthesized_at b.synthesized_definitions i in
    let m : Mem d b.synthesized_definitions = at-member b.synthesized_definitions i _ h in
    synthesized-by (λ e. e ≡ d.expression) d.rule d.attribute b.synthesized_definitions (λ none. absurd (none d m (refl, refl)))
    (λ x n (p, k). ap (λ y. y.expression) (ascends-unique ordered.synthesized n m (rw (p, k))))
