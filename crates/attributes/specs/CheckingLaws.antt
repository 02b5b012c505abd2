-- Laws of the one-formula check over words: what a definition's line says, and when it is due. Assumes nothing.
use Prim.Native.Nat.{ℕ, zero, suc, ◌+◌, ◌*◌, ◌-◌, ◌<◌, ◌≤◌}
use Rattle.std.specs.Prelude.{◌≡◌, Bool, not, List, length}
use Rattle.std.proofs.Math.Path.{refl, sym}
use Rattle.std.proofs.Common.{ap, ◌∙◌, arith}
use Rattle.std.proofs.lemmas.Bool.{not-true, not-false}
use Rattle.std.proofs.Math.Bool.{true, false}
use Rattle.std.proofs.Math.ListN.{get_or}
use Rattle.sets.specs.Sets.{subset, meets}
use Rattle.grammar.specs.Data.Symbol.{left_of}
use Rattle.grammar.specs.Data.Book.{Book}
use Rattle.grammar.specs.Formulas.Slots.{Slots, settled_below, attributes, ready}
use Rattle.grammar.specs.Formulas.FormulaCheck as grammar
use Rattle.grammar.specs.Formulas.FormulaCheck.{dot_of, line_at, due}
use Rattle.attributes.specs.Owned.{KnownIn, settled_is}
use Rattle.attributes.specs.Checking.{member_in, CheckHeld}

-- When a definition is due

module _ (b : Book) (slots : Slots) (P : ℕ) where
  behind-dot : (D : ℕ) → (D ≡ 0 → ⊥) → ready b slots P D ≡ true
  unfolding ready
  behind-dot zero n = absurd (n refl)
  behind-dot (suc D) n = refl

  front-dot : (D : ℕ) → D ≡ 0 → ready b slots P D ≡ settled_below b.inherited_owners slots (left_of b.rules P) (attributes b)
  unfolding ready
  front-dot D e = rw (e, ready)

module _ {b : Book} {definitions rules owned masks : List ℕ} (H : CheckHeld b definitions rules owned masks) {d : ℕ} (l : d < grammar.definitions b) where
  pub rule-word : get_or definitions (49 * d) 0 ≡ (line_at b d).rule
  rule-word = (H.definitions_in.inherited_is d l).rule_is

  pub position-word : get_or definitions (49 * d + 1) 0 ≡ (line_at b d).position
  position-word = (H.definitions_in.inherited_is d l).position_is

  pub attribute-word : get_or definitions (49 * d + 2) 0 ≡ (line_at b d).attribute
  attribute-word = (H.definitions_in.inherited_is d l).attribute_is

  pub attribute_low : get_or definitions (49 * d + 2) 0 < 16
  attribute_low = omega (arith, attribute-word, (H.premises.line_right d l).attribute_there, H.premises.attributes_limit)

  pub line-below : 49 * d + 49 ≤ length definitions
  line-below = omega (arith, H.definitions_in.long, H.definitions_in.fits)

  pub rule_there : get_or definitions (49 * d) 0 < length b.rules
  rule_there = omega (arith, rule-word, (H.line_in d l).rule_there)

  pub rule_low : get_or definitions (49 * d) 0 < 64
  rule_low = omega (arith, rule_there, H.rules_in.fits)

  pub rule_place : 10 * get_or definitions (49 * d) 0 + 10 ≤ length rules
  rule_place = omega (arith, rule-word, (H.line_in d l).rule_there, H.rules_in.long)

  pub position_low : 1 ≤ get_or definitions (49 * d + 1) 0
  position_low = omega (arith, position-word, (H.line_in d l).position_low)

  pub position_high : get_or definitions (49 * d + 1) 0 ≤ 8
  position_high = omega (arith, position-word, (H.line_in d l).position_high)

  pub left_word : get_or rules (10 * get_or definitions (49 * d) 0) 0 ≡ left_of b.rules (line_at b d).rule
  left_word = ap (λ (P : ℕ). get_or rules (10 * P) 0) rule-word ∙ H.rules_in.left_is (line_at b d).rule (H.line_in d l).rule_there

  pub left_below : get_or rules (10 * get_or definitions (49 * d) 0) 0 < 32
  left_below = omega (arith, left_word, H.left_low (line_at b d).rule (H.line_in d l).rule_there)

  -- where the item's set stands
  pub place_is : {rule position : ℕ} → rule ≡ get_or definitions (49 * d) 0 → position ≡ get_or definitions (49 * d + 1) 0
      → 9 * (line_at b d).rule + dot_of (line_at b d) ≡ 9 * rule + position - 1
  place_is r p = omega (arith, rule-word, position-word, (H.line_in d l).position_low)

  module _ (slots : Slots) (a : ℕ) {rule position : ℕ} (r : rule ≡ get_or definitions (49 * d) 0) (p : position ≡ get_or definitions (49 * d + 1) 0) where
    member_is : {t : Bool} → t ≡ meets (get_or masks (9 * rule + position - 1) 0) a → member_in masks a (line_at b d).rule (dot_of (line_at b d)) ≡ t
    member_is e = ap (λ (i : ℕ). meets (get_or masks i 0) a) (place_is r p) ∙ sym e

    pub due-absent : {t : Bool} → t ≡ meets (get_or masks (9 * rule + position - 1) 0) a → not t ≡ true → false ≡ due b (member_in masks a) slots (line_at b d)
    unfolding due
    due-absent e f = rw (due, member_is e ∙ not-true _ f)

    pub due-member : {t : Bool} → t ≡ meets (get_or masks (9 * rule + position - 1) 0) a → not t ≡ false
        → due b (member_in masks a) slots (line_at b d) ≡ ready b slots (line_at b d).rule (dot_of (line_at b d))
    unfolding due
    due-member e f = rw (due, member_is e ∙ not-false _ f)

  -- whether it waits for its left side
  module _ (slots : Slots) {position : ℕ} (p : position ≡ get_or definitions (49 * d + 1) 0) where
    pub ready-behind : (position ≡ 1 → ⊥) → true ≡ ready b slots (line_at b d).rule (dot_of (line_at b d))
    ready-behind n = sym (behind-dot b slots (line_at b d).rule (dot_of (line_at b d)) (λ z. n (omega (arith, position-word, (H.line_in d l).position_low))))

    pub ready-front : position ≡ 1 → {known : ℕ} → KnownIn slots known → {rule left : ℕ} → rule ≡ get_or definitions (49 * d) 0
        → left ≡ get_or rules (10 * rule) 0 → subset (get_or owned left 0) known ≡ ready b slots (line_at b d).rule (dot_of (line_at b d))
    ready-front o {known} K {rule} {left} r q =
        let A = left_of b.rules (line_at b d).rule in
        let is : left ≡ A = q ∙ ap (λ (P : ℕ). get_or rules (10 * P) 0) r ∙ left_word in
        let low : A < 32 = H.left_low (line_at b d).rule (H.line_in d l).rule_there in
        ap (λ (x : ℕ). subset (get_or owned x 0) known) is ∙ ap (λ (x : ℕ). subset x known) (H.owned_in.set_is A low)
        ∙ settled_is b.inherited_owners K A (attributes b) H.premises.attributes_limit
        ∙ sym (front-dot b slots (line_at b d).rule (dot_of (line_at b d)) (omega (arith, position-word)))
