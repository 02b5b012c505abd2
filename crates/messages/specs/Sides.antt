-- What the machine reads of left sides: the attributes that each nonterminal has, and where each rule's definitions of synthesized attributes begin.
-- Assumes nothing.
use Rattle.std.specs.Prelude.{ℕ, ◌+◌, ◌<◌, length, get_or}
use Rattle.std.proofs.Common.{sym, arith}
use mathlib.Core.List.{List, Memᴰ as Mem}
use Rattle.grammar.specs.Limits.{MAX_INHERITED, MAX_SYNTHESIZED}
use Rattle.grammar.specs.Data.Book.{Book as Lines, owner_at}
use Rattle.grammar.specs.Conditions.Meaning.{IsNonterminal, WithinLimits}
use Rattle.grammar.specs.Formulas.Slots.{attributes}
use Rattle.grammar.specs.Data.ListLaws.{at-member}
use Rattle.book.specs.declared.Book.{Book}
use Rattle.conditions.specs.AskedLaws.{counted}
use Rattle.attributes.specs.Owned.{OwnedIn}
use Rattle.attributes.specs.FormulasHeld.{owned-all}
use Rattle.stack.specs.Spans.{LinesIn}
use Rattle.stack.specs.Lists.{Listable}
use Rattle.stack.specs.Standing.{LeftIn}
use Rattle.compiler.specs.Prepared.{BookReady}

-- the owners of both kinds, and the definitions
pub record SidesAsked (numbers : Book) (inherited synthesized definitions : List ℕ) (b : Lines) : Type 0 where
  pub lines_in : LinesIn b definitions numbers.inherited_definitions (numbers.inherited_definitions + numbers.synthesized_definitions)
      numbers.rules
  pub inherited-in : Listable MAX_INHERITED b.inherited_owners inherited numbers.inherited
  pub synthesized-in : Listable MAX_SYNTHESIZED b.synthesized_owners synthesized numbers.synthesized

-- as sets, and as lists
pub record SidesIn (b : Lines) (definitions own spans down up : List ℕ) : Type 0 where
  pub owned_in : OwnedIn b.inherited_owners (attributes b) own
  pub left_in : LeftIn b definitions spans down up

owner-small : (b : Lines) → WithinLimits b → (owners : List ℕ) → ((A : ℕ) → Mem A owners → IsNonterminal b A) → (K : ℕ) → K < length owners
    → owner_at owners K < 32
owner-small b w owners d K h = omega (arith, (d (get_or owners K 32) (at-member owners K 32 h)).high, w.nonterminals_limit.high)

module _ {numbers : Book} {inherited synthesized rules definitions kernels goes : List ℕ} {nullables reaches bounds closures table actions : List ℕ}
    {b : Lines} (h : BookReady numbers inherited synthesized rules definitions kernels goes nullables reaches bounds closures table actions b) where
  pub asked-sides : SidesAsked numbers inherited synthesized definitions b
  asked-sides = let n = counted b h.numbers_are in
      let w = h.conditions-met.limits in
      let d = h.conditions-met.names in
      record {
        lines_in = record {
          ordered = h.ordered;
          limits = w;
          declared = d;
          definitions_in = h.arrays_in.definitions_in;
          from_is = n.inherited_definitions_are;
          to_is = omega (arith, n.inherited_definitions_are, n.synthesized_definitions_are);
          rules_are = n.rules_are;
        };
        inherited-in = record {
          owners_in = h.arrays_in.inherited-in;
          counted = sym n.inherited_are;
          small = omega (arith, n.inherited_are, w.inherited_limit);
          low = λ K l. owner-small b w b.inherited_owners d.inherited-owners K (omega (arith, l, n.inherited_are));
          few = w.inherited_each;
        };
        synthesized-in = record {
          owners_in = h.arrays_in.synthesized-in;
          counted = sym n.synthesized_are;
          small = omega (arith, n.synthesized_are, w.synthesized_limit);
          low = λ K l. owner-small b w b.synthesized_owners d.synthesized-owners K (omega (arith, l, n.synthesized_are));
          few = w.synthesized_each;
        };
      }

pub sides-in : {numbers : Book} {inherited synthesized definitions own spans down up : List ℕ} {b : Lines}
    → SidesAsked numbers inherited synthesized definitions b → OwnedIn b.inherited_owners numbers.inherited own → LeftIn b definitions spans down up
    → SidesIn b definitions own spans down up
sides-in a o l = record { owned_in = owned-all (sym a.inherited-in.counted) o; left_in = l }
