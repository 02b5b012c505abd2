-- States in which each attribute is given by one definition at most, copies left out, as the words of the state and of `GivenIn` tell it.
-- Assumes nothing.
use Rattle.std.specs.Prelude.{ℕ, ◌+◌, ◌*◌, ◌-◌, ◌<◌, ◌≤◌, ◌≡◌, refl, ◌⊎◌, Bool, true, false, ◌&&◌, List, length, get_or}
use Rattle.std.proofs.Common.{arith, sym, ap, ◌∙◌, inl, inr}
use Rattle.std.specs.Int.Bits.{bit_and, bit_or}
use Rattle.sets.specs.Sets.{bit}
use Rattle.sets.proofs.Operations.{bit-and}
use Rattle.grammar.specs.Automaton.TestLaws.{both_true}
use Rattle.grammar.specs.Data.Symbol.{left_of}
use Rattle.grammar.specs.Data.Book.{Book}
use Rattle.grammar.specs.Data.ListLaws.{at-member}
use Rattle.grammar.specs.Format.Ordered.{Ordered}
use Rattle.grammar.specs.Automaton.FirstSets.{sets_of}
use Rattle.grammar.specs.Automaton.Items.{Closure}
use Rattle.grammar.specs.Formulas.FormulaCheck as grammar
use Rattle.grammar.specs.Formulas.FormulaCheck.{no_definition, dot_of, line_at}
use Rattle.automaton.specs.StatesIn.{ItemsIn}
use Rattle.automaton.specs.Lefts.{Least, none-bit}
use Rattle.automaton.specs.Fronts.{FrontsIn}
use Rattle.agreement.specs.Apart.{Apart, apart_none, apart_more, apart-past}
use Rattle.agreement.specs.Givers.{Copies, GivenOnce}
use Rattle.agreement.specs.Given.{GivenIn}
use Rattle.agreement.specs.SameLines.{three_ways, same_line}
use Rattle.attributes.specs.StateWords.{InLine, InFront, located}

-- of the definitions at items of the closure that are no copies, no two give the same attribute
abbrev pub Single : Book → ℕ → Type 0
Single b S = GivenOnce b (λ P D. (a : ℕ) × Closure b S P D a)

-- What the test looks at

-- the attributes given at the item of a kernel line
abbrev pub line_word : List ℕ → List ℕ → ℕ → ℕ
line_word kernels given i = get_or given (9 * get_or kernels (5 * i + 1) 0 + get_or kernels (5 * i + 2) 0) 0

-- some attributes, or none
abbrev pub chosen_of : Bool → ℕ → ℕ
chosen_of true attributes = attributes
chosen_of false attributes = 0

-- the attributes that are given at the front of rule P, if it is among some
abbrev pub front_word : ℕ → List ℕ → ℕ → ℕ
front_word rules given P = chosen_of (bit rules P) (get_or given (9 * P) 0)

-- The walk over the rules of the closure at whose front something is given

-- what is in two numbers is in the first
pub and_first : (m n K : ℕ) → bit (bit_and m n) K ≡ true → bit m K ≡ true
and_first m n K e = (both_true (bit m K) (bit n K) (sym (bit-and m n K) ∙ e)).0

-- the attributes given at the front of those below `rule` are apart, and `rest` has the others
pub record Walk (all : ℕ) (given : List ℕ) (rest bits rule : ℕ) : Type 0 where
  pub passed : Apart (front_word all given) 0 0 rule bits
  pub left : (i : ℕ) → bit rest i ≡ bit all (rule + i)

-- before the first rule
pub walk_first : (all : ℕ) (given : List ℕ) → Walk all given all 0 0
walk_first all given = record { passed = apart_none _; left = λ i. let e : i ≡ 0 + i = omega arith in ap (bit all) e }

module _ {all : ℕ} {given : List ℕ} {rest bits rule : ℕ} (W : Walk all given rest bits rule) where
  -- rules that are not among them give nothing
  idle : (i : ℕ) → bit rest i ≡ false → front_word all given (rule + i) ≡ 0
  idle i e = ap (λ (t : Bool). chosen_of t (get_or given (9 * (rule + i)) 0)) (sym (W.left i) ∙ e)

  -- nor do all up to a place
  idle-on : {last : ℕ} → ((i : ℕ) → rule + i < last → bit rest i ≡ false) → (P : ℕ) → rule ≤ P → P < last → front_word all given P ≡ 0
  idle-on none P h l = let e : rule + (P - rule) ≡ P = omega arith in
      ap (front_word all given) (sym e) ∙ idle (P - rule) (none (P - rule) (omega arith))

  -- no rule is left
  pub walk-last : rest ≡ 0 → Apart (front_word all given) 0 0 64 bits
  walk-last z = apart-past _ W.passed (idle-on (λ i l. rw z (none-bit i)))

  module _ {gap : ℕ} (L : Least rest gap) where
    -- the next rule is one of them
    pub walk-there : bit all (rule + gap) ≡ true
    walk-there = sym (W.left gap) ∙ L.own

    -- and gives nothing that was given before
    pub walk_more : {next more : ℕ} → ((i : ℕ) → bit next i ≡ bit rest (gap + 1 + i)) → more ≡ get_or given (9 * (rule + gap)) 0 → bit_and bits more ≡ 0
        → Walk all given next (bit_or bits more) (rule + gap + 1)
    walk_more {next} {more} next-is more_is none = record {
      passed = rw word_is (apart_more _ (omega arith) to-there (rw word_is at none));
      left = λ i. let e : rule + (gap + 1 + i) ≡ rule + gap + 1 + i = omega arith in next-is i ∙ W.left (gap + 1 + i) ∙ ap (bit all) e;
    }
      where
        word_is : more ≡ front_word all given (rule + gap)
        word_is = more_is ∙ sym (ap (λ (t : Bool). chosen_of t (get_or given (9 * (rule + gap)) 0)) walk-there)

        to-there : Apart (front_word all given) 0 0 (rule + gap) bits
        to-there = apart-past _ W.passed (idle-on (λ i l. L.none i (omega arith)))

-- The state

module _ {b : Book} {rules kernels bounds closures fronts given : List ℕ} {leaders : ℕ} (ordered : Ordered b)
    (I : ItemsIn b (sets_of b.rules) rules kernels bounds closures) (W : FrontsIn b rules closures fronts)
    (G : GivenIn b (grammar.definitions b) given leaders) {S first last : ℕ} (s : S < b.states) (first_is : first ≡ get_or bounds S 0)
    (last_is : last ≡ get_or bounds (S + 1) 0) {bits all : ℕ} (F : Apart (front_word (bit_and (get_or fronts S 0) leaders) given) 0 0 64 bits)
    (K : Apart (line_word kernels given) bits first last all) where
  -- where the words of the state speak of the definition in line d
  abbrev AtLine : ℕ → Type 0
  AtLine d = InLine kernels first last (line_at b d).rule (dot_of (line_at b d))

  abbrev AtFront : ℕ → Type 0
  AtFront d = (dot_of (line_at b d) ≡ 0) × InFront closures (32 * S) (left_of b.rules (line_at b d).rule)

  module _ (d : ℕ) (l : d < grammar.definitions b) where
    -- its rule is one of the book
    rule_there : (line_at b d).rule < length b.rules
    rule_there = (I.states_in.grammar_in.declared.inherited-declared (line_at b d) (at-member b.inherited_definitions d no_definition l)).rule_there

    rule_low : (line_at b d).rule < 64
    rule_low = omega (arith, rule_there, I.states_in.grammar_in.rules_in.fits)

    -- and in the closure
    entered : AtFront d → bit (get_or fronts S 0) (line_at b d).rule ≡ true
    entered (z, i) = by (bit (get_or fronts S 0) (line_at b d).rule) refl
      where
        by : (t : Bool) → bit (get_or fronts S 0) (line_at b d).rule ≡ t → t ≡ true
        by true e = refl
        by false e =
            absurd (i.some (ap (λ (A : ℕ). get_or closures (32 * S + A) 0) (sym (I.states_in.grammar_in.rules_in.left_is _ rule_there))
            ∙ W.idle S _ s rule_there e))

    module _ (n : Copies (line_at b d) → ⊥) where
      -- the kernel line's word has its attribute
      line-has : (i : AtLine d) → bit (line_word kernels given i.line) (line_at b d).attribute ≡ true
      line-has i = rw (i.rule_is, i.dot_is) (G.item_is d l n)

      -- the words of the fronts have it
      front-has : AtFront d → bit (front_word (bit_and (get_or fronts S 0) leaders) given (line_at b d).rule) (line_at b d).attribute ≡ true
      front-has (z, i) =
          let P : ℕ = (line_at b d).rule in
          let among : bit (bit_and (get_or fronts S 0) leaders) P ≡ true =
          bit-and (get_or fronts S 0) leaders P ∙ ap (λ (t : Bool). t && bit leaders P) (entered (z, i)) ∙ G.leader_is d l n z in
          let place : 9 * P + dot_of (line_at b d) ≡ 9 * P = omega (arith, z) in
          rw (among, ← place) (G.item_is d l n)

  module _ (d e : ℕ) (l : d < grammar.definitions b) (k : e < grammar.definitions b) (n : Copies (line_at b d) → ⊥) (o : Copies (line_at b e) → ⊥)
      (same : (line_at b d).attribute ≡ (line_at b e).attribute) where
    -- two kernel lines, a line and a front, two fronts
    lines : AtLine d → AtLine e → d ≡ e
    lines i j =
        let p = line-has d l n i in
        let q = rw (← same) at (line-has e k o j) in
        three_ways i.line j.line (λ less. absurd (K.apart i.line j.line _ i.low less j.high p q))
        (λ more. absurd (K.apart j.line i.line _ j.low more i.high q p))
        (λ at. same_line ordered I.states_in.grammar_in.declared d e l k
        (sym i.rule_is ∙ ap (λ (x : ℕ). get_or kernels (5 * x + 1) 0) at ∙ j.rule_is)
        (sym i.dot_is ∙ ap (λ (x : ℕ). get_or kernels (5 * x + 2) 0) at ∙ j.dot_is) same)

    line-front : AtLine d → AtFront e → ⊥
    line-front i j =
        K.base_apart i.line (line_at b d).attribute i.low i.high
        (F.held (line_at b e).rule (line_at b d).attribute (omega arith) (rule_low e k) (rw (← same) at (front-has e k o j))) (line-has d l n i)

    at-fronts : AtFront d → AtFront e → d ≡ e
    at-fronts i j =
        let p = front-has d l n i in
        let q = rw (← same) at (front-has e k o j) in
        three_ways (line_at b d).rule (line_at b e).rule
        (λ less. absurd (F.apart (line_at b d).rule (line_at b e).rule _ (omega arith) less (rule_low e k) p q))
        (λ more. absurd (F.apart (line_at b e).rule (line_at b d).rule _ (omega arith) more (rule_low d l) q p))
        (λ at. same_line ordered I.states_in.grammar_in.declared d e l k at (i.0 ∙ sym j.0) same)

  pub single-state : Single b S
  single-state d e l k (a, c) (a', c') n o same = by (located ordered I s first_is last_is c) (located ordered I s first_is last_is c')
    where
      by : AtLine d ⊎ AtFront d → AtLine e ⊎ AtFront e → d ≡ e
      by (inl i) (inl j) = lines d e l k n o same i j
      by (inl i) (inr j) = absurd (line-front d e l k n o same i j)
      by (inr i) (inl j) = absurd (line-front e d k l o n (sym same) j i)
      by (inr i) (inr j) = at-fronts d e l k n o same i j
