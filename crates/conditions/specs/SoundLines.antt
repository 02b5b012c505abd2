-- Conditions 4 and 5, the lines of definitions: from what is declared of a line to what the code reads of it, from nodes to leaves, and from lines
-- to the book. Assumes nothing.
use Rattle.std.specs.Prelude.{ℕ, ◌+◌, ◌*◌, ◌≤◌, ◌<◌, ◌≡◌, Bool, List, [], ◌∷◌, length, get_or}
use Rattle.std.proofs.Math.Path.{refl, sym, ap, ap₂}
use Rattle.std.proofs.Common.{◌∙◌}
use Rattle.std.proofs.Math.Bool.{true, false, ◌&&◌}
use native.Mathlib.Omega.{arith}
use Rattle.std.proofs.Math.Dec.{eqb, ltb}
use borrow.Author.Tests.{lt-ltb, le-ltb}
use Rattle.grammar.specs.Conditions.Decides.{and-decides, lt-decides, one_to, one_to-decides, all, all_below}
use Rattle.grammar.specs.Data.Symbol.{left_of, right_of}
use Rattle.grammar.specs.Data.Postfix.{Step, select, postfix, length-postfix}
use Rattle.grammar.specs.Data.Term.{nodes}
use Rattle.grammar.specs.Data.Book.{Place, Book as Lines, inherited_owner, synthesized_owner}
use Rattle.grammar.specs.Conditions.Tests.{
  all_leaves,
  before,
  is_position,
  declared_place,
  declared_inherited,
  declared_synthesized,
  nonterminal_at,
  owned_place,
  owned_inherited,
  owned_synthesized,
  owned,
}
use Rattle.grammar.specs.Conditions.MeaningLaws.{right-length}
use Rattle.std.proofs.Math.Bool.{and-true, and-false}
use Rattle.conditions.specs.Answers.{then-and, and-mixed, and-where, below-same, all-below, below_at, below_all}
use Rattle.book.specs.declared.Book.{Book}
use Rattle.book.specs.Held.{node_at}
use Rattle.conditions.specs.Asked.{Counted, Entry, PlaceThere, LineThere, LeavesThere, InheritedThere, SynthesizedThere, NamedBook}
use Rattle.conditions.specs.AskedLaws.{inherited_entry, synthesized_entry, inherited-line, synthesized-line}
use Rattle.conditions.specs.Leaves.{of_leaf, leaves-nodes}
use Rattle.conditions.specs.Places.{place_in, place_of_step, place-in}
use Rattle.conditions.specs.DeclaredTests.{place_code, leaves_declared, inherited_declared, synthesized_declared, definitions_declared}
use Rattle.conditions.specs.DeclaredLaws.{node-asked, node-count}
use Rattle.conditions.specs.SoundTests.{
  owned_code,
  leaves_owned,
  leaves_sound,
  inherited_line_sound,
  synthesized_line_sound,
  sound_inherited,
  sound_synthesized,
  inherited_sound,
  synthesized_sound,
  definitions_sound,
}
use Rattle.conditions.specs.OwnedLaws.{nonterminal-word, inherited-owner, place-there, owned-code, before-nine}

-- two tests of a list's elements at once
all-and : {B : Type 0} (f g : B → Bool) (xs : List B) → all (λ x. f x && g x) xs ≡ all f xs && all g xs
unfolding all
all-and f g [] = refl
all-and f g (x ∷ xs) =
    then-and (f x && g x) (all (λ x. f x && g x) xs) ∙ (ap (λ (t : Bool). (f x && g x) && t) (all-and f g xs)
    ∙ (and-mixed (f x) (g x) (all f xs) (all g xs) ∙ sym (ap₂ ◌&&◌ (then-and (f x) (all f xs)) (then-and (g x) (all g xs)))))

all-at : {B : Type 0} (f : B → Bool) (d : B) (xs : List B) (i : ℕ) → all f xs ≡ true → i < length xs → f (get_or xs i d) ≡ true
all-at f d xs i e l = below_at (λ i. f (get_or xs i d)) (length xs) i (sym (all-below f d xs) ∙ e) l

-- a node's tests
abbrev owned_node : ℕ → Entry → Step Place → Bool
owned_node limit x s = of_leaf (owned_place x.book x.line.rule) s && of_leaf (before limit) s

abbrev sound_node : ℕ → Entry → Step Place → Bool
sound_node limit x s = of_leaf (declared_place x.book x.line.rule) s && owned_node limit x s

leaves-sound-nodes : (limit : ℕ) (x : Entry) → all (sound_node limit x) (postfix x.line.expression) ≡ leaves_sound limit x
unfolding leaves_sound leaves_declared leaves_owned
leaves-sound-nodes limit x =
    let e = x.line.expression in
    let declared = declared_place x.book x.line.rule in
    let owns = owned_place x.book x.line.rule in
    all-and (of_leaf declared) (owned_node limit x) (postfix e)
    ∙ ap₂ ◌&&◌ (sym (leaves-nodes declared e))
    (all-and (of_leaf owns) (of_leaf (before limit)) (postfix e) ∙ sym (ap₂ ◌&&◌ (leaves-nodes owns e) (leaves-nodes (before limit) e)))

-- node j of line i
module _ {numbers : Book} {inherited synthesized rules definitions : List ℕ} {i size : ℕ} {x : Entry}
    (h : LeavesThere numbers inherited synthesized rules definitions i size x) (j : ℕ) (l : j < nodes x.line.expression) where
  node-read : place_in definitions (49 * i + 4 + 3 * j) ≡ place_of_step (node_at x.line.expression j)
  node-read = let g = h.leaves_of.line_is in place-in (g.line_in.node_is j l (omega (arith, g.few_nodes)))

  pub place-in-reach : place_code numbers size (place_in definitions (49 * i + 4 + 3 * j)) ≡ true
      → PlaceThere inherited synthesized rules (get_or definitions (49 * i) 0) (place_in definitions (49 * i + 4 + 3 * j))
  place-in-reach e =
      let d : of_leaf (declared_place x.book x.line.rule) (node_at x.line.expression j) ≡ true = sym (node-asked h.leaves_of j l) ∙ e in
      rw (h.leaves_of.line_is.line_in.rule_is, node-read) (place-there h.declared_in x.line.rule h.rule_there (node_at x.line.expression j) d)

  node-owned : (limit : ℕ) → of_leaf (declared_place x.book x.line.rule) (node_at x.line.expression j) ≡ true
      → owned_code inherited synthesized rules (get_or definitions (49 * i) 0) limit (place_in definitions (49 * i + 4 + 3 * j))
      ≡ owned_node limit x (node_at x.line.expression j)
  node-owned limit d =
      rw (h.leaves_of.line_is.line_in.rule_is, node-read) (owned-code h.declared_in x.line.rule h.rule_there limit (node_at x.line.expression j) d)

  node-sound : (limit : ℕ)
      → place_code numbers size (place_in definitions (49 * i + 4 + 3 * j))
      && owned_code inherited synthesized rules (get_or definitions (49 * i) 0) limit (place_in definitions (49 * i + 4 + 3 * j))
      ≡ sound_node limit x (node_at x.line.expression j)
  node-sound limit =
      ap (λ (t : Bool). t && owned_code inherited synthesized rules (get_or definitions (49 * i) 0) limit (place_in definitions (49 * i + 4 + 3 * j)))
      (node-asked h.leaves_of j l)
      ∙ and-where (of_leaf (declared_place x.book x.line.rule) (node_at x.line.expression j)) (node-owned limit)

-- the nodes of line i, one after the other
pub leaves-sound-asked : {numbers : Book} {inherited synthesized rules definitions : List ℕ} {i size : ℕ} {x : Entry} (limit : ℕ)
    → LeavesThere numbers inherited synthesized rules definitions i size x
    → all_below (get_or definitions (49 * i + 3) 0) (λ j. place_code numbers size (place_in definitions (49 * i + 4 + 3 * j))
    && owned_code inherited synthesized rules (get_or definitions (49 * i) 0) limit (place_in definitions (49 * i + 4 + 3 * j))) ≡ leaves_sound limit x
leaves-sound-asked {numbers} {inherited} {synthesized} {rules} {definitions} {i} {size} {x} limit h =
    let steps = postfix x.line.expression in
    ap (λ (n : ℕ). all_below n (λ j. place_code numbers size (place_in definitions (49 * i + 4 + 3 * j))
    && owned_code inherited synthesized rules (get_or definitions (49 * i) 0) limit (place_in definitions (49 * i + 4 + 3 * j)))) (node-count h.leaves_of.line_is)
    ∙ below-same (length steps) (λ j l. node-sound h j (omega (arith, length-postfix x.line.expression)) limit)
    ∙ sym (all-below (sound_node limit x) select steps) ∙ leaves-sound-nodes limit x

-- an inherited attribute's definition
module _ {numbers : Book} {inherited synthesized rules definitions : List ℕ} {i size : ℕ} {x : Entry}
    (h : InheritedThere numbers inherited synthesized rules definitions i size x) where
  inherited-declared : declared_inherited x.book x.line ≡ leaves_declared x
  unfolding declared_inherited is_position leaves_declared
  inherited-declared =
      rw (
        lt-ltb x.line.rule (length x.book.rules) h.leaves_there.rule_there,
        (one_to-decides (length (right_of x.book.rules x.line.rule)) x.line.position).complete h.position_there,
        lt-ltb x.line.attribute (length x.book.inherited_owners) h.attribute_there,
      )

  pub inherited-line-asked : {r : Bool} → r ≡ leaves_sound (get_or definitions (49 * i + 1) 0) x
      → eqb (get_or rules (10 * get_or definitions (49 * i) 0 + 1 + get_or definitions (49 * i + 1) 0) 0)
      (32 + get_or inherited (get_or definitions (49 * i + 2) 0) 0) && r
      ≡ inherited_line_sound x
  unfolding inherited_line_sound owned_inherited leaves_sound leaves_owned
  inherited-line-asked e =
      let g = h.leaves_there in
      let d = g.leaves_of.line_is.line_in in
      let P = x.line.rule in
      let J = x.line.position in
      let owner = g.declared_in.inherited-in.owner_is x.line.attribute h.attribute_there in
      rw (d.rule_is, d.position_is, d.attribute_is, e)
      (ap₂ (λ (s t : Bool). s && t)
      (ap (λ (A : ℕ). eqb (get_or rules (10 * P + 1 + J) 0) (32 + A)) owner
      ∙ nonterminal-word g.declared_in.symbols_in P J g.rule_there h.position_there (inherited_owner x.book x.line.attribute)
      (rw (← owner) h.owner_low))
      (ap (λ (k : ℕ). leaves_sound k x) d.position_is)
      ∙ (moved (nonterminal_at x.book P J (inherited_owner x.book x.line.attribute)) (leaves_declared x)
      (all_leaves (owned_place x.book P) x.line.expression) (all_leaves (before J) x.line.expression)
      ∙ ap (λ (t : Bool). t && owned_inherited x.book x.line) (sym inherited-declared)))
    where
      moved : (p q r s : Bool) → p && (q && (r && s)) ≡ q && (p && r && s)
      moved true q r s = refl
      moved false q r s = sym (and-false q)

-- a synthesized attribute's definition: every position is left of 9
module _ {numbers : Book} {inherited synthesized rules definitions : List ℕ} {i size : ℕ} {x : Entry}
    (h : SynthesizedThere numbers inherited synthesized rules definitions i size x) where
  synthesized-declared : ltb x.line.rule (length x.book.rules) && ltb x.line.attribute (length x.book.synthesized_owners) && leaves_declared x
      ≡ leaves_declared x
  synthesized-declared =
      rw (
        lt-ltb x.line.rule (length x.book.rules) h.leaves_there.rule_there,
        lt-ltb x.line.attribute (length x.book.synthesized_owners) h.attribute_there,
      )

  all-before : leaves_declared x ≡ true → all_leaves (before 9) x.line.expression ≡ true
  unfolding leaves_declared
  all-before e =
      let g = h.leaves_there in
      let declared = declared_place x.book x.line.rule in
      let steps = postfix x.line.expression in
      leaves-nodes (before 9) x.line.expression ∙ (all-below (of_leaf (before 9)) select steps
      ∙ below_all (λ j. of_leaf (before 9) (node_at x.line.expression j)) (length steps)
      (λ j l. before-nine g.declared_in x.line.rule g.rule_there (node_at x.line.expression j)
      (all-at (of_leaf declared) select steps j (sym (leaves-nodes declared x.line.expression) ∙ e) l)))

  pub synthesized-line-asked : {r : Bool} → r ≡ leaves_sound 9 x
      → eqb (get_or synthesized (get_or definitions (49 * i + 2) 0) 0) (get_or rules (10 * get_or definitions (49 * i) 0) 0) && r ≡ synthesized_line_sound x
  unfolding synthesized_line_sound declared_synthesized owned_synthesized leaves_sound leaves_owned leaves_declared
  synthesized-line-asked e =
      let g = h.leaves_there in
      let d = g.leaves_of.line_is.line_in in
      let owns = all_leaves (owned_place x.book x.line.rule) x.line.expression in
      let left = eqb (synthesized_owner x.book x.line.attribute) (left_of x.book.rules x.line.rule) in
      rw (d.rule_is, d.attribute_is)
      (ap₂ ◌&&◌ (ap₂ eqb (g.declared_in.synthesized-in.owner_is x.line.attribute h.attribute_there)
      (g.declared_in.symbols_in.rules_in.left_is x.line.rule g.rule_there))
      (e ∙ and-where (leaves_declared x) (λ t. ap (λ (s : Bool). owns && s) (all-before t) ∙ and-true owns))
      ∙ (moved left (leaves_declared x) owns ∙ ap (λ (t : Bool). t && (left && owns)) (sym synthesized-declared)))
    where
      moved : (p q r : Bool) → p && (q && r) ≡ q && (p && r)
      moved true q r = refl
      moved false q r = sym (and-false q)

-- From a line to a declared one, by its words

module _ {numbers : Book} {inherited synthesized rules definitions : List ℕ} {i : ℕ} {x : Entry}
    (h : LineThere numbers inherited synthesized rules definitions i x) where
  leaves_there : x.line.rule < length x.book.rules
      → LeavesThere numbers inherited synthesized rules definitions i (get_or rules (10 * get_or definitions (49 * i) 0 + 1) 0) x
  leaves_there l =
      record {
        declared_in = h.declared_in;
        leaves_of = record {
          counted = h.counted;
          line_is = h.line_is;
          size_is = ap (λ (p : ℕ). get_or rules (10 * p + 1) 0) h.line_is.line_in.rule_is ∙ h.declared_in.symbols_in.rules_in.size_is x.line.rule l;
        };
        rule_there = l;
      }

  past : numbers.rules ≤ get_or definitions (49 * i) 0 → length x.book.rules ≤ x.line.rule
  past l = omega (arith, h.line_is.line_in.rule_is, h.counted.rules_are)

  pub inherited-rule-refused : numbers.rules ≤ get_or definitions (49 * i) 0 → false ≡ inherited_line_sound x
  unfolding inherited_line_sound declared_inherited
  inherited-rule-refused l = rw (le-ltb x.line.rule (length x.book.rules) (past l))

  pub synthesized-rule-refused : numbers.rules ≤ get_or definitions (49 * i) 0 → false ≡ synthesized_line_sound x
  unfolding synthesized_line_sound declared_synthesized
  synthesized-rule-refused l = rw (le-ltb x.line.rule (length x.book.rules) (past l))

  module _ (l : get_or definitions (49 * i) 0 < numbers.rules) where
    rule_there : x.line.rule < length x.book.rules
    rule_there = omega (arith, h.line_is.line_in.rule_is, h.counted.rules_are)

    -- an inherited attribute's: its position and attribute
    module _ {r : Bool} (e : r ≡ one_to (get_or rules (10 * get_or definitions (49 * i) 0 + 1) 0) (get_or definitions (49 * i + 1) 0)) where
      target-words : r && ltb (get_or definitions (49 * i + 2) 0) numbers.inherited
          ≡ is_position x.book x.line.rule x.line.position && ltb x.line.attribute (length x.book.inherited_owners)
      unfolding is_position
      target-words =
          let d = h.line_is.line_in in
          ap₂ ◌&&◌ (e ∙ ap₂ one_to (leaves_there rule_there).leaves_of.size_is d.position_is) (ap₂ ltb d.attribute_is h.counted.inherited_are)

      pub inherited-refused : r && ltb (get_or definitions (49 * i + 2) 0) numbers.inherited ≡ false → false ≡ inherited_line_sound x
      unfolding inherited_line_sound declared_inherited
      inherited-refused f =
          sym (gone (ltb x.line.rule (length x.book.rules)) (is_position x.book x.line.rule x.line.position)
          (ltb x.line.attribute (length x.book.inherited_owners)) _ _ (sym target-words ∙ f))
        where
          gone : (p q r s t : Bool) → q && r ≡ false → (p && q && r && s) && t ≡ false
          gone true true r s t e = rw e
          gone true false r s t e = refl
          gone false q r s t e = refl

      pub inherited-there : r && ltb (get_or definitions (49 * i + 2) 0) numbers.inherited ≡ true
          → InheritedThere numbers inherited synthesized rules definitions i (get_or rules (10 * get_or definitions (49 * i) 0 + 1) 0) x
      unfolding is_position
      inherited-there f =
          let s = h.declared_in.symbols_in in
          let (position, attribute) =
          (and-decides (one_to-decides (length (right_of x.book.rules x.line.rule)) x.line.position)
          (lt-decides x.line.attribute (length x.book.inherited_owners))).sound (sym target-words ∙ f) in
          record {
            leaves_there = leaves_there rule_there;
            attribute_there = attribute;
            position_there = position;
            few_right = right-length s.within x.line.rule;
            owner_low = omega (
              arith,
              h.declared_in.inherited-in.owner_is x.line.attribute attribute,
              (inherited-owner s x.line.attribute attribute).high,
              s.within.nonterminals_limit.high,
            );
          }

    -- a synthesized attribute's
    pub synthesized-refused : numbers.synthesized ≤ get_or definitions (49 * i + 2) 0 → false ≡ synthesized_line_sound x
    unfolding synthesized_line_sound declared_synthesized
    synthesized-refused k =
        rw (le-ltb x.line.attribute (length x.book.synthesized_owners) (omega (arith, h.line_is.line_in.attribute_is, h.counted.synthesized_are)))
        (gone (ltb x.line.rule (length x.book.rules)) _ _)
      where
        gone : (p q r : Bool) → false ≡ (p && false && q) && r
        gone true q r = refl
        gone false q r = refl

    pub synthesized-there : get_or definitions (49 * i + 2) 0 < numbers.synthesized
        → SynthesizedThere numbers inherited synthesized rules definitions i (get_or rules (10 * get_or definitions (49 * i) 0 + 1) 0) x
    synthesized-there k =
        record {
          leaves_there = leaves_there rule_there;
          attribute_there = omega (arith, h.line_is.line_in.attribute_is, h.counted.synthesized_are);
        }

-- The lines of a book

module _ {numbers : Book} {inherited synthesized rules definitions : List ℕ} {b : Lines}
    (h : NamedBook numbers inherited synthesized rules definitions b) (i : ℕ) where
  pub inherited-line-there : i < length b.inherited_definitions → LineThere numbers inherited synthesized rules definitions i (inherited_entry b i)
  inherited-line-there l =
      record { counted = h.counted; declared_in = h.declared_in; line_is = inherited-line h.declared_in.symbols_in.within h.definitions_in i l }

  pub synthesized-line-there : {n : ℕ} → n ≡ length b.inherited_definitions → i < length b.synthesized_definitions
      → LineThere numbers inherited synthesized rules definitions (n + i) (synthesized_entry b i)
  synthesized-line-there e l =
      record { counted = h.counted; declared_in = h.declared_in; line_is = synthesized-line h.declared_in.symbols_in.within h.definitions_in i e l }

-- the lines of each kind make what is asked of them all
module _ {numbers : Book} {b : Lines} (c : Counted numbers b) where
  pub inherited-sound-lines : all_below numbers.inherited_definitions (λ i. inherited_line_sound (inherited_entry b i)) ≡ inherited_sound b
  unfolding inherited_sound inherited_line_sound
  inherited-sound-lines =
      ap (λ (n : ℕ). all_below n (λ i. inherited_line_sound (inherited_entry b i))) c.inherited_definitions_are
      ∙ sym (all-below (sound_inherited b) _ b.inherited_definitions)

  pub synthesized-sound-lines : all_below numbers.synthesized_definitions (λ i. synthesized_line_sound (synthesized_entry b i)) ≡ synthesized_sound b
  unfolding synthesized_sound synthesized_line_sound
  synthesized-sound-lines =
      ap (λ (n : ℕ). all_below n (λ i. synthesized_line_sound (synthesized_entry b i))) c.synthesized_definitions_are
      ∙ sym (all-below (sound_synthesized b) _ b.synthesized_definitions)

pub sound-parts : (b : Lines) → inherited_sound b && synthesized_sound b ≡ definitions_sound b
unfolding inherited_sound synthesized_sound definitions_sound definitions_declared inherited_declared synthesized_declared owned
sound-parts b =
    ap₂ ◌&&◌ (all-and (declared_inherited b) (owned_inherited b) b.inherited_definitions)
    (all-and (declared_synthesized b) (owned_synthesized b) b.synthesized_definitions)
    ∙ and-mixed (all (declared_inherited b) b.inherited_definitions) (all (owned_inherited b) b.inherited_definitions)
    (all (declared_synthesized b) b.synthesized_definitions) (all (owned_synthesized b) b.synthesized_definitions)
