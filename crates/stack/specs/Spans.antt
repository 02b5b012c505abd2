-- Where the synthesized attributes' definitions of each rule begin: the lines ascend by their rules, so those of one rule stand together.
-- Assumes nothing.
use Rattle.std.specs.Prelude.{ℕ, zero, suc, ◌+◌, ◌*◌, ◌-◌, ◌≤◌, ◌<◌, ◌≡◌, List, [], ◌∷◌, length, get_or, set}
use Rattle.std.proofs.Common.{◌∙◌, length-set, get_or-set_same, get_or-set_other, below_more}
use native.Mathlib.Omega.{arith}
use Rattle.std.proofs.Math.Decide.{dec_lt}
use Rattle.grammar.specs.Limits.{MAX_RULES, MAX_DEFINITIONS}
use Rattle.grammar.specs.Data.Book.{SynthesizedDefinition, Book}
use Rattle.grammar.specs.Format.Ordered.{Before, before_less, before_same, Ascends, ascends-∷, synthesized_key, Ordered}
use Rattle.grammar.specs.Format.OrderLaws.{before-first, ascends-above}
use Rattle.grammar.specs.Conditions.Meaning.{WithinLimits, Declared}
use Rattle.grammar.specs.Data.ListLaws.{at-member}
use Rattle.book.specs.Held.{DefinitionsIn, synthesized_at}

-- the rule and the attribute of a definition, by its line
abbrev pub rule_word : List ℕ → ℕ → ℕ
rule_word definitions i = get_or definitions (49 * i) 0

abbrev pub attribute_word : List ℕ → ℕ → ℕ
attribute_word definitions i = get_or definitions (49 * i + 2) 0

-- of the lines from `from` up to `to`, those of rules below P stand before `at`, all others from it on
pub record Cut (definitions : List ℕ) (from to P at : ℕ) : Type 0 where
  pub above : from ≤ at
  pub within : at ≤ to
  pub lower : (i : ℕ) → from ≤ i → i < at → rule_word definitions i < P
  pub upper : (i : ℕ) → at ≤ i → i < to → P ≤ rule_word definitions i

-- the lines of rule P stand from word P up to word P + 1
pub record SpansIn (b : Book) (definitions spans : List ℕ) : Type 0 where
  pub long : length spans ≡ MAX_RULES + 1
  pub cut : (P : ℕ) → P ≤ length b.rules
      → Cut definitions (length b.inherited_definitions) (length b.inherited_definitions + length b.synthesized_definitions) P (get_or spans P 0)

-- the lines of rule P, one after the other, and how many they are
pub record RuleLines (definitions spans : List ℕ) (P : ℕ) : Type 0 where
  pub there : P + 1 < length spans
  pub ascend : get_or spans P 0 ≤ get_or spans (P + 1) 0
  pub low : get_or spans (P + 1) 0 ≤ MAX_DEFINITIONS
  pub inside : 49 * get_or spans (P + 1) 0 ≤ length definitions

abbrev pub line_count : List ℕ → ℕ → ℕ
line_count spans P = get_or spans (P + 1) 0 - get_or spans P 0

-- the definitions of a book: the synthesized attributes' lines are those from `from` up to `to`
pub record LinesIn (b : Book) (definitions : List ℕ) (from to rules : ℕ) : Type 0 where
  pub ordered : Ordered b
  pub limits : WithinLimits b
  pub declared : Declared b
  pub definitions_in : DefinitionsIn b.inherited_definitions b.synthesized_definitions definitions
  pub from_is : from ≡ length b.inherited_definitions
  pub to_is : to ≡ length b.inherited_definitions + length b.synthesized_definitions
  pub rules_are : rules ≡ length b.rules

-- ---- lines of one rule, from one line on

pub record Run (definitions : List ℕ) (to rule first i : ℕ) : Type 0 where
  pub above : first ≤ i
  pub within : i ≤ to
  pub all : (j : ℕ) → j < i → first ≤ j → rule_word definitions j ≡ rule

pub record Passes (definitions : List ℕ) (to rule first i : ℕ) : Type 0 where
  pub run : Run definitions to rule first i
  pub ends : i < to → rule_word definitions i ≡ rule → ⊥

module _ {definitions : List ℕ} {to rule first : ℕ} where
  pub run_none : first ≤ to → Run definitions to rule first first
  run_none h = record { above = omega arith; within = h; all = λ j p q. absurd (omega arith) }

  pub run_more : {i : ℕ} → i < to → rule_word definitions i ≡ rule → Run definitions to rule first i → Run definitions to rule first (i + 1)
  run_more {i} h e r = record {
    above = omega (arith, r.above);
    within = omega arith;
    all = below_more (λ j. first ≤ j → rule_word definitions j ≡ rule) i r.all (λ p. e);
  }

-- ---- rule after rule

-- words of rules that ascend
pub record Sorted (definitions : List ℕ) (from to : ℕ) : Type 0 where
  pub room : 49 * to ≤ length definitions
  pub ascend : (i j : ℕ) → from ≤ i → i ≤ j → j < to → rule_word definitions i ≤ rule_word definitions j

pub record Starting (definitions : List ℕ) (from to rules : ℕ) (spans : List ℕ) (at p : ℕ) : Type 0 where
  pub within : p ≤ rules
  pub long : length spans ≡ MAX_RULES + 1
  pub here : get_or spans p 0 ≡ at
  pub cuts : (P : ℕ) → P ≤ p → Cut definitions from to P (get_or spans P 0)

pub starting-none : {definitions : List ℕ} {from to rules : ℕ} (spans : List ℕ) → length spans ≡ MAX_RULES + 1 → from ≤ to
    → Starting definitions from to rules (set spans 0 from) from 0
starting-none {definitions} {from} {to} spans long h = record {
  within = omega arith;
  long = length-set spans 0 from ∙ long;
  here = first;
  cuts = λ P l.
      let z : P ≡ 0 = omega arith in
      rw (z, first) (record { above = omega arith; within = h; lower = λ i p q. absurd (omega arith); upper = λ i p q. omega arith });
}
  where
    first : get_or (set spans 0 from) 0 0 ≡ from
    first = get_or-set_same spans 0 from 0 (omega arith)

module _ {definitions spans : List ℕ} {from to rules at p : ℕ} (W : Sorted definitions from to) (few : rules ≤ MAX_RULES)
    (D : Starting definitions from to rules spans at p) where
  pub starting-at : (from ≤ at) × (at ≤ to)
  starting-at = let c = D.cuts p (omega arith) in (omega (arith, D.here, c.above), omega (arith, D.here, c.within))

  cut-next : {next : ℕ} → Cut definitions from to p at → Passes definitions to p at next → Cut definitions from to (p + 1) next
  cut-next {next} C R = record {
    above = omega (arith, C.above, R.run.above);
    within = R.run.within;
    lower = λ i l h. by i l h (dec_lt i at);
    upper = λ i h l.
        let first : p ≤ rule_word definitions next = C.upper next R.run.above (omega arith) in
        let other : rule_word definitions next ≡ p → ⊥ = R.ends (omega arith) in
        omega (arith, W.ascend next i (omega (arith, C.above, R.run.above)) h l);
  }
    where
      by : (i : ℕ) → from ≤ i → i < next → Dec (i < at) → rule_word definitions i < p + 1
      by i l h (yes b) = omega (arith, C.lower i l b)
      by i l h (no b) = omega (arith, R.run.all i h (omega arith))

  -- a rule more
  pub starting-more : {next : ℕ} → p < rules → Passes definitions to p at next → Starting definitions from to rules (set spans (p + 1) next) next (p + 1)
  starting-more {next} h R = record {
    within = omega arith;
    long = length-set spans (p + 1) next ∙ D.long;
    here = last;
    cuts = λ P l. by P l (dec_lt P (p + 1));
  }
    where
      last : get_or (set spans (p + 1) next) (p + 1) 0 ≡ next
      last = get_or-set_same spans (p + 1) next 0 (omega (arith, D.long))

      by : (P : ℕ) → P ≤ p + 1 → Dec (P < p + 1) → Cut definitions from to P (get_or (set spans (p + 1) next) P 0)
      by P l (yes b) = rw (get_or-set_other spans (p + 1) P next 0 (λ e. omega arith)) (D.cuts P (omega arith))
      by P l (no b) =
          let e : P ≡ p + 1 = omega arith in
          rw (e, last) (cut-next (rw D.here at (D.cuts p (omega arith))) R)

-- ---- of a book

keys-ascend : {last : List ℕ} (ds : List SynthesizedDefinition) → Ascends synthesized_key last ds → (i j : ℕ) → i < j → j < length ds
    → Before (synthesized_key (synthesized_at ds i)) (synthesized_key (synthesized_at ds j))
keys-ascend [] a i j h l = absurd (omega arith)
keys-ascend (d ∷ ds) a i zero h l = absurd (omega arith)
keys-ascend (d ∷ ds) (ascends-∷ b a) zero (suc j) h l = ascends-above a (at-member ds j _ (omega arith))
keys-ascend (d ∷ ds) (ascends-∷ b a) (suc i) (suc j) h l = keys-ascend {last = synthesized_key d} ds a i j (omega arith) (omega arith)

module _ {last : List ℕ} (ds : List SynthesizedDefinition) (a : Ascends synthesized_key last ds) where
  rules-ascend : (i j : ℕ) → i ≤ j → j < length ds → (synthesized_at ds i).rule ≤ (synthesized_at ds j).rule
  unfolding synthesized_key
  rules-ascend i j h l = by (dec_lt i j)
    where
      by : Dec (i < j) → (synthesized_at ds i).rule ≤ (synthesized_at ds j).rule
      by (yes m) = before-first (keys-ascend ds a i j m l)
      by (no m) =
          let e : i ≡ j = omega arith in
          rw e (omega arith)

  -- the attributes of one rule's definitions
  pub attributes-ascend : (i j : ℕ) → i < j → j < length ds → (synthesized_at ds i).rule ≡ (synthesized_at ds j).rule
      → (synthesized_at ds i).attribute < (synthesized_at ds j).attribute
  unfolding synthesized_key
  attributes-ascend i j h l e = second (keys-ascend ds a i j h l) e
    where
      second : {x y k m : ℕ} → Before (x ∷ k ∷ []) (y ∷ m ∷ []) → x ≡ y → k < m
      second (before_less p) e = absurd (omega arith)
      second (before_same (before_less p)) e = p
      second (before_same (before_same p)) e = elim p [ ]

module _ {b : Book} {definitions : List ℕ} {from to rules : ℕ} (L : LinesIn b definitions from to rules) where
  pub lines-sorted : Sorted definitions from to
  lines-sorted = record {
    room = omega (arith, L.to_is, L.definitions_in.long, L.definitions_in.fits);
    ascend = λ i j h m l.
        let n : ℕ = length b.inherited_definitions in
        let p : i ≡ n + (i - n) = omega (arith, L.from_is) in
        let q : j ≡ n + (j - n) = omega (arith, L.from_is) in
        let u : i - n < length b.synthesized_definitions = omega (arith, L.to_is) in
        let v : j - n < length b.synthesized_definitions = omega (arith, L.to_is) in
        rw (p, q, (L.definitions_in.synthesized_is (i - n) u).rule_is, (L.definitions_in.synthesized_is (j - n) v).rule_is)
        (rules-ascend b.synthesized_definitions L.ordered.synthesized (i - n) (j - n) (omega arith) v);
  }

  pub lines-room : (from ≤ to) × (to ≤ MAX_DEFINITIONS) × (rules ≤ MAX_RULES)
  lines-room =
      (omega (arith, L.from_is, L.to_is), omega (arith, L.to_is, L.definitions_in.fits), omega (arith, L.rules_are, L.limits.rules_limit.high))

  pub starting-done : {spans : List ℕ} {at p : ℕ} → Starting definitions from to rules spans at p → rules ≤ p → SpansIn b definitions spans
  starting-done D h = record {
    long = D.long;
    cut = λ P l. rw (← L.to_is, ← L.from_is) (D.cuts P (omega (arith, L.rules_are)));
  }
