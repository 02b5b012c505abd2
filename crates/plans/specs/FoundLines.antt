-- The lines found for the items of kernel lines, by the words that were read. Assumes nothing.
use Rattle.std.specs.Prelude.{ℕ, zero, suc, ◌+◌, ◌*◌, ◌-◌, ◌/◌, ◌%◌, ◌<◌, ◌≤◌, ◌≡◌, refl, true, false, List, [], ◌∷◌, ◌++◌, length, get_or}
use Rattle.std.proofs.Common.{arith, sym, ap, ◌∙◌}
use Rattle.std.proofs.Math.Seq.{slice}
use Rattle.sets.specs.Sets.{bit}
use Rattle.grammar.specs.Data.Symbol.{after}
use Rattle.grammar.specs.Data.Book.{Book}
use Rattle.grammar.specs.Format.Ordered.{Ordered}
use Rattle.grammar.specs.Automaton.FirstSets.{Sets}
use Rattle.grammar.specs.Automaton.ReachSets.{reach_with}
use Rattle.grammar.specs.Automaton.ClosureSets.{set_of, closure_sets}
use Rattle.grammar.specs.Automaton.CoreItems.{Core, of_kernels, of_rules, core_items}
use Rattle.grammar.specs.Formulas.FormulaCheck as grammar
use Rattle.book.specs.Held.{kernel_at}
use Rattle.attributes.specs.Checking.{CheckHeld}
use Rattle.attributes.specs.MarkLines.{ItemLinesIn, item_of}
use Rattle.attributes.specs.StateMarks.{MarksHeld, range}
use Rattle.plans.specs.DefinitionLines.{item_at, lines-ascend}
use Rattle.plans.specs.Places.{PlacesIn}
use Rattle.plans.specs.Found.{FoundIn, FrontsFound, no-bit, found-item, joined-none, joined-idle, joined-lines, ItemLines}

-- the first line of an item is one of the book
pub first-within : {b : Book} {places : List ℕ} → PlacesIn b 0 places → (rule dot : ℕ) {first : ℕ} → first ≡ get_or places (32 + 9 * rule + dot) 0
    → (first ≡ 0 → ⊥) → first ≤ grammar.definitions b
first-within {places = places} P rule dot e n =
    let same : 32 + (9 * rule + dot) ≡ 32 + 9 * rule + dot = omega arith in
    let is = ap (λ (k : ℕ). get_or places k 0) same ∙ sym e in
    omega (arith, is, (P.first_low (9 * rule + dot) (λ z. n (sym is ∙ z))).1)

module _ {b : Book} {kernels : List ℕ} (L : ItemLinesIn b kernels) (i : ℕ) (h : i < length b.kernels) {rule dot : ℕ}
    (rule_is : rule ≡ get_or kernels (5 * i + 1) 0) (dot_is : dot ≡ get_or kernels (5 * i + 2) 0) {places : List ℕ} (P : PlacesIn b 0 places) {first : ℕ}
    (first_is : first ≡ get_or places (32 + 9 * rule + dot) 0) {F : Sets} {R : List ℕ} {a : ℕ} {items : List Core} {found : List ℕ}
    (H : FoundIn b F R a items found) where
  abbrev Q : ℕ
  Q = (kernel_at b.kernels i).rule

  abbrev E : ℕ
  E = (kernel_at b.kernels i).dot

  abbrev N : ℕ
  N = set_of (kernel_at b.kernels i).lookaheads

  low : E < 9
  low = omega (arith, L.short i h)

  place : 9 * rule + dot ≡ 9 * Q + E
  place = omega (arith, rule_is, dot_is, L.kernels-in.rule_is i h, L.kernels-in.dot_is i h)

  word : get_or places (32 + (9 * Q + E)) 0 ≡ first
  word =
      let e : 32 + (9 * Q + E) ≡ 32 + 9 * rule + dot = omega (arith, place) in
      ap (λ (k : ℕ). get_or places k 0) e ∙ sym first_is

  -- the words of places that a definition of the item has
  at_item : (d : ℕ) → item_at b d ≡ 9 * Q + E → get_or places (32 + item_at b d) 0 ≡ first
  at_item d e = ap (λ (k : ℕ). get_or places (32 + k) 0) e ∙ word

  -- no definition is of the item
  pub line-none : first ≡ 0 → FoundIn b F R a (item_of b.kernels i ∷ items) found
  line-none z = found-item b F R a H Q E N low (joined-none b F R a H Q E N low λ d l e. (P.first_is d (omega arith) l).0 (at_item d e ∙ z))

  module _ {reach : ℕ} (reach_is : reach ≡ reach_with F R (after b.rules rule dot) (get_or kernels (5 * i + 4) 0)) where
    reached : reach ≡ reach_with F R (after b.rules Q E) N
    reached = rw (rule_is ∙ L.kernels-in.rule_is i h, dot_is ∙ L.kernels-in.dot_is i h, L.kernels-in.set_is i h) at reach_is

    -- it does not reach the terminal
    pub line-idle : bit reach a ≡ false → FoundIn b F R a (item_of b.kernels i ∷ items) found
    line-idle f = found-item b F R a H Q E N low (joined-idle b F R a H Q E N low (rw reached at f))

    -- it does
    pub line-found : {definitions rules owned masks : List ℕ} → Ordered b → CheckHeld b definitions rules owned masks → {lines : ℕ}
        → lines ≡ grammar.definitions b → {new : List ℕ} → (first ≡ 0 → ⊥) → bit reach a ≡ true → ItemLines b lines (9 * rule + dot) (first - 1) found new
        → FoundIn b F R a (item_of b.kernels i ∷ items) new
    line-found ordered C {lines} e s t I =
        let (above, within, is) = P.first_low (9 * Q + E) (λ z. s (sym word ∙ z)) in
        let is-first : item_at b (first - 1) ≡ 9 * Q + E = rw word at is in
        found-item b F R a H Q E N low
        (joined-lines b F R a H Q E N low ordered C I.adding (rw reached at t) (omega (arith, I.high))
        (λ d f l. I.each d f l ∙ place)
        (λ d l q. omega (arith, (P.first_is d (omega arith) l).1, at_item d q))
        (λ l. (λ q. I.ended (omega arith) (q ∙ sym place), omega (arith, lines-ascend ordered C (first - 1) I.line I.adding.low l, is-first))))

-- Where nothing is found

no_word : (k : ℕ) → ◌≡◌ {A = ℕ} (get_or (0 ∷ 0 ∷ []) k 0) 0
no_word zero = refl
no_word (suc zero) = refl
no_word (suc (suc k)) = refl

pub none_found : (b : Book) (F : Sets) (R : List ℕ) (a : ℕ) (looks : List ℕ) {found : List ℕ} → found ≡ 0 ∷ 0 ∷ [] → FrontsFound b F R a looks 0 found
none_found b F R a looks {found} e = record {
  long = ap length e;
  line_is = λ d h. absurd (omega arith);
  none = λ d h l. no-bit (d % 64) (sym (rw e (no_word (d / 64))));
}

-- The items of a state, those with the dot in front and those of its kernel lines
pub found-state : {b : Book} {rules kernels bounds closures nullables begins reaches : List ℕ} (H : MarksHeld b rules kernels bounds closures nullables begins reaches)
    {S : ℕ} (s : S < b.states) {first last : ℕ} → first ≡ get_or bounds S 0 → last ≡ get_or bounds (S + 1) 0 → {F : Sets} {R : List ℕ} {a : ℕ} {found : List ℕ}
    → FoundIn b F R a (of_kernels (slice first last b.kernels) ++ of_rules b.rules (closure_sets b F S) (length b.rules)) found
    → FoundIn b F R a (core_items b F S) found
unfolding core_items
found-state H s f l M = rw (← (range H s f l).lines_are) at M
