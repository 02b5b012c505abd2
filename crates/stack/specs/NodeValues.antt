-- The synthesized values of a rule's left side, in a record that is not yet on the stack: a token's word, which is 0, and a word for each attribute.
-- The rule's definitions are gone through, line by line. Assumes nothing.
use Rattle.std.specs.Prelude.{ℕ, ◌+◌, ◌-◌, ◌≤◌, ◌<◌, ◌≡◌, ◌⊎◌, set, replicate}
use Rattle.std.proofs.Common.{sym, ap, ◌∙◌, inl, inr, length-set, get_or-set_same, get_or-set_other}
use mathlib.Core.List.{List, Memᴰ as Mem}
use native.Mathlib.Omega.{arith}
use Rattle.std.proofs.Math.Decide.{ℕ_discrete, dec_lt}
use Rattle.std.proofs.Math.ListN.{length, get_or}
use Rattle.std.proofs.lemmas.List.{length-replicate, get_or-replicate}
use Rattle.grammar.specs.Data.Symbol.{left_of, right_of}
use Rattle.grammar.specs.Data.Term.{eval}
use Rattle.grammar.specs.Data.Book.{Expr, SynthesizedDefinition, Book, synthesized_owner, synthesized_expr}
use Rattle.grammar.specs.Data.DefinitionLaws.{synthesized-by}
use Rattle.grammar.specs.Format.Ordered.{Ordered}
use Rattle.grammar.specs.Conditions.Meaning.{WithinLimits, Declared, Owned, SynthesizedOf}
use Rattle.grammar.specs.Data.ListLaws.{at-member, member-at}
use Rattle.book.specs.Held.{DefinitionsIn, synthesized_at, no_synthesized}
use Rattle.cells.specs.Values.{place_in, Asked}
use Rattle.cells.specs.DefinitionsAsked.{synthesized-asked, synthesized-expression}
use Rattle.stack.specs.Spans.{rule_word, attribute_word, Cut, SpansIn, RuleLines}

-- a book's definitions, where those of each rule begin, and a rule with its size
pub record NodeAsked (b : Book) (definitions spans : List ℕ) (P size : ℕ) : Type 0 where
  pub ordered : Ordered b
  pub limits : WithinLimits b
  pub declared : Declared b
  pub owned : Owned b
  pub definitions_in : DefinitionsIn b.inherited_definitions b.synthesized_definitions definitions
  pub spans_in : SpansIn b definitions spans
  pub rule_there : P < length b.rules
  pub size_is : size ≡ length (right_of b.rules P)

-- the value of attribute K where the right side stands above height `base`
abbrev pub left_value : Book → ℕ → ℕ → List ℕ → List ℕ → ℕ → ℕ
left_value b P base inherited synthesized K = eval (synthesized_expr b P K) (place_in base inherited synthesized)

-- the record has all values
pub record NodeValues (b : Book) (P base : ℕ) (inherited synthesized fresh : List ℕ) : Type 0 where
  pub no_token : get_or fresh 0 0 ≡ 0
  pub value_is : (K : ℕ) → K < 32 → get_or fresh (1 + K) 0 ≡ left_value b P base inherited synthesized K

-- no definition of (P, K) stands before a line
abbrev pub Undefined : Book → ℕ → ℕ → ℕ → Type 0
Undefined b P K line =
    (i : ℕ) → i < length b.synthesized_definitions → length b.inherited_definitions + i < line
    → SynthesizedOf P K (synthesized_at b.synthesized_definitions i) → ⊥

-- the record has the values of the definitions before a line
pub record ValuesBefore (b : Book) (P base : ℕ) (inherited synthesized : List ℕ) (line : ℕ) (fresh : List ℕ) : Type 0 where
  pub long : length fresh ≡ 33
  pub no_token : get_or fresh 0 0 ≡ 0
  pub known : (K : ℕ) → K < 32
      → (get_or fresh (1 + K) 0 ≡ left_value b P base inherited synthesized K) ⊎ ((get_or fresh (1 + K) 0 ≡ 0) × Undefined b P K line)

-- a definition that stands in a line of the rule
pub record LineOf (b : Book) (definitions : List ℕ) (P size line : ℕ) : Type 0 where
  pub number : ℕ
  pub there : number < length b.synthesized_definitions
  pub line_is : line ≡ length b.inherited_definitions + number
  pub rule_is : (synthesized_at b.synthesized_definitions number).rule ≡ P
  pub attribute_is : attribute_word definitions line ≡ (synthesized_at b.synthesized_definitions number).attribute
  pub attribute_low : attribute_word definitions line < 32
  pub attribute_there : attribute_word definitions line < length b.synthesized_owners
  pub left_owns : synthesized_owner b (attribute_word definitions line) ≡ left_of b.rules P
  pub asked : Asked definitions line size (synthesized_at b.synthesized_definitions number).expression
  pub expression_is : synthesized_expr b P (attribute_word definitions line) ≡ (synthesized_at b.synthesized_definitions number).expression
  pub low : line < 128

-- a line's place among the definitions
module _ {b : Book} {definitions spans : List ℕ} {P size : ℕ} (A : NodeAsked b definitions spans P size) where
  abbrev CutAt : ℕ → Type 0
  CutAt R =
      Cut definitions (length b.inherited_definitions) (length b.inherited_definitions + length b.synthesized_definitions) R (get_or spans R 0)

  here : CutAt P
  here = A.spans_in.cut P (omega (arith, A.rule_there))

  next : CutAt (P + 1)
  next = A.spans_in.cut (P + 1) (omega (arith, A.rule_there))

  pub rule-lines : RuleLines definitions spans P
  rule-lines = record {
    there = omega (arith, A.spans_in.long, A.rule_there, A.limits.rules_limit.high);
    ascend = by (dec_lt (get_or spans (P + 1) 0) (get_or spans P 0));
    low = omega (arith, next.within, A.definitions_in.fits);
    inside = omega (arith, next.within, A.definitions_in.long);
  }
    where
      by : Dec (get_or spans (P + 1) 0 < get_or spans P 0) → get_or spans P 0 ≤ get_or spans (P + 1) 0
      by (yes l) =
          let line : ℕ = get_or spans (P + 1) 0 in
          absurd (let z : ⊥ = omega (arith, here.lower line next.above l, next.upper line (omega arith) (omega (arith, here.within))) in z)
      by (no g) = omega arith

  line_at : (line i : ℕ) → line ≡ length b.inherited_definitions + i → get_or spans P 0 ≤ line → line < get_or spans (P + 1) 0
      → LineOf b definitions P size line
  line_at line i e l h =
      let d : SynthesizedDefinition = synthesized_at b.synthesized_definitions i in
      let there : i < length b.synthesized_definitions = omega (arith, next.within) in
      let rule_is : d.rule ≡ P =
      omega (
        arith,
        (A.definitions_in.synthesized_is i there).rule_is,
        ap (rule_word definitions) e,
        here.upper line l (omega (arith, next.within)),
        next.lower line (omega arith) h,
      ) in
      let attribute_is : attribute_word definitions line ≡ d.attribute = rw e (A.definitions_in.synthesized_is i there).attribute_is in
      let member : Mem d b.synthesized_definitions = at-member b.synthesized_definitions i _ there in
      let size_is : length (right_of b.rules d.rule) ≡ size = rw rule_is (sym A.size_is) in
      record {
        number = i;
        there = there;
        line_is = e;
        rule_is = rule_is;
        attribute_is = attribute_is;
        attribute_low = omega (arith, (A.declared.synthesized-declared d member).attribute_there, A.limits.synthesized_limit);
        attribute_there = omega (arith, (A.declared.synthesized-declared d member).attribute_there);
        left_owns = rw (attribute_is, ← rule_is) (A.owned.synthesized_owned d member).left_owns;
        asked = rw (e, ← size_is) (synthesized-asked A.definitions_in A.limits A.declared i there);
        expression_is = rw (attribute_is, ← rule_is) (synthesized-expression A.ordered i there);
        low = omega (arith, next.within, A.definitions_in.fits);
      }

  pub line_of : (line : ℕ) → get_or spans P 0 ≤ line → line < get_or spans (P + 1) 0 → LineOf b definitions P size line
  line_of line l h = line_at line (line - length b.inherited_definitions) (omega (arith, here.above)) l h

  module _ {base : ℕ} {inherited synthesized : List ℕ} where
    pub values-none : {fresh : List ℕ} → fresh ≡ replicate 33 0 → ValuesBefore b P base inherited synthesized (get_or spans P 0) fresh
    values-none e = record {
      long = ap (length {A = ℕ}) e ∙ length-replicate {A = ℕ} 33 0;
      no_token = ap (λ (l : List ℕ). get_or l 0 0) e;
      known = λ K l. inr (
        ap (λ (s : List ℕ). get_or s (1 + K) 0) e ∙ get_or-replicate {A = ℕ} 33 (1 + K) 0 0 (omega arith),
        λ i h m (p, q). omega (arith, here.lower (length b.inherited_definitions + i) (omega arith) m, (A.definitions_in.synthesized_is i h).rule_is),
      );
    }

    -- the value of a line's definition in its word
    pub values-turn : {line k v : ℕ} {fresh : List ℕ} → LineOf b definitions P size line → ValuesBefore b P base inherited synthesized line fresh
        → k ≡ attribute_word definitions line
        → ((e : Expr) → Asked definitions line size e → v ≡ eval e (place_in base inherited synthesized))
        → ValuesBefore b P base inherited synthesized (line + 1) (set fresh (1 + k) v)
    values-turn {line} {k} {v} {fresh} L W q value = record {
      long = length-set fresh (1 + k) v ∙ W.long;
      no_token = get_or-set_other fresh (1 + k) 0 v 0 (λ z. omega arith) ∙ W.no_token;
      known = λ K l. by K l (ℕ_discrete K k);
    }
      where
        by : (K : ℕ) → K < 32 → Dec (K ≡ k)
            → (get_or (set fresh (1 + k) v) (1 + K) 0 ≡ left_value b P base inherited synthesized K)
            ⊎ ((get_or (set fresh (1 + k) v) (1 + K) 0 ≡ 0) × Undefined b P K (line + 1))
        by K l (yes e) =
            let stored : get_or (set fresh (1 + k) v) (1 + K) 0 ≡ v = rw e (get_or-set_same fresh (1 + k) v 0 (omega (arith, W.long))) in
            inl (stored ∙ value _ L.asked ∙ ap (λ x. eval x (place_in base inherited synthesized)) (rw (e, q) (sym L.expression_is)))
        by K l (no n) = of (W.known K l)
          where
            kept : get_or (set fresh (1 + k) v) (1 + K) 0 ≡ get_or fresh (1 + K) 0
            kept = get_or-set_other fresh (1 + k) (1 + K) v 0 (λ z. n (omega arith))

            more : Undefined b P K line → Undefined b P K (line + 1)
            more none i h m (p, a) = last (dec_lt (length b.inherited_definitions + i) line)
              where
                last : Dec (length b.inherited_definitions + i < line) → ⊥
                last (yes l) = none i h l (p, a)
                last (no g) =
                    let same : i ≡ L.number = omega (arith, L.line_is) in
                    n (sym a ∙ ap (λ j. (synthesized_at b.synthesized_definitions j).attribute) same ∙ sym L.attribute_is ∙ sym q)

            of : (get_or fresh (1 + K) 0 ≡ left_value b P base inherited synthesized K) ⊎ ((get_or fresh (1 + K) 0 ≡ 0) × Undefined b P K line)
                → (get_or (set fresh (1 + k) v) (1 + K) 0 ≡ left_value b P base inherited synthesized K)
                ⊎ ((get_or (set fresh (1 + k) v) (1 + K) 0 ≡ 0) × Undefined b P K (line + 1))
            of (inl e) = inl (kept ∙ e)
            of (inr (z, none)) = inr (kept ∙ z, more none)

    pub values-end : {line : ℕ} {fresh : List ℕ} → ValuesBefore b P base inherited synthesized line fresh → get_or spans (P + 1) 0 ≤ line
        → NodeValues b P base inherited synthesized fresh
    unfolding eval
    values-end {line} {fresh} W h = record { no_token = W.no_token; value_is = λ K l. by K (W.known K l) }
      where
        -- a definition of P stands before the last of its lines
        before : (i : ℕ) → i < length b.synthesized_definitions → (synthesized_at b.synthesized_definitions i).rule ≡ P
            → length b.inherited_definitions + i < line
        before i l e = of (dec_lt (length b.inherited_definitions + i) (get_or spans (P + 1) 0))
          where
            of : Dec (length b.inherited_definitions + i < get_or spans (P + 1) 0) → length b.inherited_definitions + i < line
            of (yes m) = omega arith
            of (no m) =
                let z : ⊥ =
                omega (
                  arith,
                  next.upper (length b.inherited_definitions + i) (omega arith) (omega arith),
                  (A.definitions_in.synthesized_is i l).rule_is,
                ) in
                absurd z

        by : (K : ℕ) → (get_or fresh (1 + K) 0 ≡ left_value b P base inherited synthesized K) ⊎ ((get_or fresh (1 + K) 0 ≡ 0) × Undefined b P K line)
            → get_or fresh (1 + K) 0 ≡ left_value b P base inherited synthesized K
        by K (inl e) = e
        by K (inr (z, none)) =
            synthesized-by (λ e. get_or fresh (1 + K) 0 ≡ eval e (place_in base inherited synthesized)) P K b.synthesized_definitions (λ n. z)
            (λ d m (p, a).
            let (i, l, e) = member-at b.synthesized_definitions no_synthesized m in
            absurd (none i l (before i l (rw e p)) (rw e (p, a))))
