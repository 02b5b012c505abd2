-- Condition 6 by counting: where definitions ascend strictly and each is of an attribute of its symbol, none is missing exactly if there are as many
-- as are due. Assumes nothing.
use Prim.Native.Nat.{ℕ, suc, ◌-◌, ◌≤◌}
use Rattle.std.specs.Prelude.{◌≡◌, refl, true, false, eqb, length}
use Rattle.std.proofs.Math.Path.{sym}
use Rattle.std.proofs.Common.{ap₂, ◌∙◌, arith, eqb-true, eq-eqb}
use Rattle.std.proofs.Math.Bool.{Bool, ◌&&◌}
use mathlib.Core.List.{[], ◌∷◌, Memᴰ as Mem}
use Rattle.grammar.specs.Conditions.Decides.{decides-same, equivalent, eq-decides, all_below, all_one_to}
use Rattle.grammar.specs.Data.Symbol.{left_of, right_of}
use Rattle.grammar.specs.Data.Book.{InheritedDefinition, SynthesizedDefinition, Book as Lines, inherited_owner, synthesized_owner}
use Rattle.grammar.specs.Format.Ordered.{Ordered, inherited_key, synthesized_key}
use Rattle.grammar.specs.Conditions.Meaning.{Declared, Owned}
use Rattle.grammar.specs.Conditions.Tests.{is_nonterminal, nonterminal_at, defines_inherited, defines_synthesized, right_defined, left_defined, defined}
use Rattle.std.proofs.lemmas.Bool.{and_parts}
use Rattle.conditions.specs.Answers.{below-and}
use Rattle.conditions.specs.Sums.{sum, one, sum_same, Tight, below-tight}
use Rattle.conditions.specs.Tallies.{tally, tally-all, tally-none, tally-parts, tally-tight, tally-key}

-- a definition is of a rule, of a position in it, of an attribute there
abbrev of_rule : ℕ → InheritedDefinition → Bool
of_rule P d = eqb d.rule P

abbrev of_position : ℕ → ℕ → InheritedDefinition → Bool
of_position P J d = eqb d.rule P && eqb d.position J

abbrev of_attribute : ℕ → ℕ → ℕ → InheritedDefinition → Bool
of_attribute P J K d = eqb d.rule P && eqb d.position J && eqb d.attribute K

-- a synthesized attribute's is of a rule, of an attribute of its left side
abbrev of_left : ℕ → SynthesizedDefinition → Bool
of_left P d = eqb d.rule P

abbrev of_left_attribute : ℕ → ℕ → SynthesizedDefinition → Bool
of_left_attribute P K d = eqb d.rule P && eqb d.attribute K

module _ (b : Lines) where
  -- how many definitions are due
  unfoldable pub inherited_due : ℕ
  inherited_due = sum (length b.rules) λ P. sum (length (right_of b.rules P)) λ D.
      sum (length b.inherited_owners) λ K. one (nonterminal_at b P (suc D) (inherited_owner b K))

  unfoldable pub synthesized_due : ℕ
  synthesized_due = sum (length b.rules) λ P. sum (length b.synthesized_owners) λ K. one (eqb (synthesized_owner b K) (left_of b.rules P))

  -- condition 6 of right symbols, of left sides
  abbrev rights_defined : Bool
  rights_defined = all_below (length b.rules) λ P. all_one_to (length (right_of b.rules P)) (right_defined b P)

  abbrev lefts_defined : Bool
  lefts_defined = all_below (length b.rules) (left_defined b)

-- a definition of a place has its key
inherited-key : (P J K : ℕ) (d : InheritedDefinition) → of_attribute P J K d ≡ true → inherited_key d ≡ P ∷ J ∷ K ∷ []
unfolding inherited_key
inherited-key P J K d e =
    let f = (and_parts (of_position P J d) (eqb d.attribute K) e).0 in
    let p : d.rule ≡ P = eqb-true d.rule P (and_parts (of_rule P d) (eqb d.position J) f).0 in
    let j : d.position ≡ J = eqb-true d.position J (and_parts (of_rule P d) (eqb d.position J) f).1 in
    let k : d.attribute ≡ K = eqb-true d.attribute K (and_parts (of_position P J d) (eqb d.attribute K) e).1 in
    cc

synthesized-key : (P K : ℕ) (d : SynthesizedDefinition) → of_left_attribute P K d ≡ true → synthesized_key d ≡ P ∷ K ∷ []
unfolding synthesized_key
synthesized-key P K d e =
    let p : d.rule ≡ P = eqb-true d.rule P (and_parts (of_left P d) (eqb d.attribute K) e).0 in
    let k : d.attribute ≡ K = eqb-true d.attribute K (and_parts (of_left P d) (eqb d.attribute K) e).1 in
    cc

-- a test fails where it would make another hold that does not
fails : {t u : Bool} → (t ≡ true → u ≡ true) → u ≡ false → t ≡ false
fails {t = true} f e = sym (f refl) ∙ e
fails {t = false} f e = refl

-- positions count from 1
eqb-before : (m D : ℕ) → 1 ≤ m → eqb m (suc D) ≡ eqb (m - 1) D
eqb-before m D l = decides-same (eq-decides m (suc D)) (equivalent (λ e. omega arith) (λ e. omega arith) (eq-decides (m - 1) D))

module _ {b : Lines} (ordered : Ordered b) (names : Declared b) (owned : Owned b) where
  -- every definition is counted at one place
  inherited-places : sum (length b.rules) (λ P. sum (length (right_of b.rules P)) λ D.
      sum (length b.inherited_owners) λ K. tally (of_attribute P (suc D) K) b.inherited_definitions) ≡ length b.inherited_definitions
  inherited-places =
      sum_same (length b.rules) (λ P l.
      sum_same (length (right_of b.rules P)) (λ D m.
      tally-parts (of_position P (suc D)) (λ K d. eqb d.attribute K) (length b.inherited_owners) b.inherited_definitions
      λ d n e. (d.attribute, (names.inherited-declared d n).attribute_there, λ i. refl))
      ∙ tally-parts (of_rule P) (λ D d. eqb d.position (suc D)) (length (right_of b.rules P)) b.inherited_definitions
      λ d n e.
      let p = (names.inherited-declared d n).position_there in
      let q : d.rule ≡ P = eqb-true d.rule P e in
      let low : 1 ≤ d.position = p.low in
      let high : d.position ≤ length (right_of b.rules P) = rw q at p.high in
      (d.position - 1, omega arith, λ i. eqb-before d.position i low))
      ∙ (tally-parts (λ d. true) (λ P d. eqb d.rule P) (length b.rules) b.inherited_definitions
      (λ d n e. (d.rule, (names.inherited-declared d n).rule_there, λ i. refl))
      ∙ tally-all b.inherited_definitions)

  synthesized-places : sum (length b.rules) (λ P. sum (length b.synthesized_owners) λ K. tally (of_left_attribute P K) b.synthesized_definitions)
      ≡ length b.synthesized_definitions
  synthesized-places =
      sum_same (length b.rules) (λ P l.
      tally-parts (of_left P) (λ K d. eqb d.attribute K) (length b.synthesized_owners) b.synthesized_definitions
      λ d n e. (d.attribute, (names.synthesized-declared d n).attribute_there, λ i. refl))
      ∙ (tally-parts (λ d. true) (λ P d. eqb d.rule P) (length b.rules) b.synthesized_definitions
      (λ d n e. (d.rule, (names.synthesized-declared d n).rule_there, λ i. refl))
      ∙ tally-all b.synthesized_definitions)

  -- a definition is only where one is due
  inherited-there : (P J K : ℕ) (d : InheritedDefinition) → Mem d b.inherited_definitions → of_attribute P J K d ≡ true
      → nonterminal_at b P J (inherited_owner b K) ≡ true
  unfolding inherited_key nonterminal_at is_nonterminal
  inherited-there P J K d m e =
      let q : d.rule ∷ d.position ∷ d.attribute ∷ [] ≡ P ∷ J ∷ K ∷ [] = inherited-key P J K d e in
      let p : d.rule ≡ P = cc in
      let j : d.position ≡ J = cc in
      let k : d.attribute ≡ K = cc in
      rw (← p, ← j, ← k, (owned.inherited_owned d m).target_owns) (eq-eqb (inherited_owner b d.attribute) (inherited_owner b d.attribute) refl)

  synthesized-there : (P K : ℕ) (d : SynthesizedDefinition) → Mem d b.synthesized_definitions → of_left_attribute P K d ≡ true
      → eqb (synthesized_owner b K) (left_of b.rules P) ≡ true
  unfolding synthesized_key
  synthesized-there P K d m e =
      let q : d.rule ∷ d.attribute ∷ [] ≡ P ∷ K ∷ [] = synthesized-key P K d e in
      let p : d.rule ≡ P = cc in
      let k : d.attribute ≡ K = cc in
      rw (← p, ← k) (eq-eqb _ _ (owned.synthesized_owned d m).left_owns)

  -- at most as many as are due, and as many exactly if none is missing
  inherited-tight : Tight (rights_defined b) (inherited_due b) (length b.inherited_definitions)
  unfolding inherited_due all_one_to right_defined defines_inherited
  inherited-tight =
      rw (← inherited-places) (below-tight (length b.rules) λ P l. below-tight (length (right_of b.rules P)) λ D m.
      below-tight (length b.inherited_owners) λ K n.
      let t : InheritedDefinition → Bool = of_attribute P (suc D) K in
      tally-tight t b.inherited_definitions (nonterminal_at b P (suc D) (inherited_owner b K))
      (tally-key t (P ∷ suc D ∷ K ∷ []) b.inherited_definitions ordered.inherited (inherited-key P (suc D) K))
      λ f. tally-none t b.inherited_definitions λ d o. fails (inherited-there P (suc D) K d o) f)

  synthesized-tight : Tight (lefts_defined b) (synthesized_due b) (length b.synthesized_definitions)
  unfolding synthesized_due left_defined defines_synthesized
  synthesized-tight =
      rw (← synthesized-places) (below-tight (length b.rules) λ P l. below-tight (length b.synthesized_owners) λ K n.
      let t : SynthesizedDefinition → Bool = of_left_attribute P K in
      tally-tight t b.synthesized_definitions (eqb (synthesized_owner b K) (left_of b.rules P))
      (tally-key t (P ∷ K ∷ []) b.synthesized_definitions ordered.synthesized (synthesized-key P K))
      λ f. tally-none t b.synthesized_definitions λ d o. fails (synthesized-there P K d o) f)

  -- the two numbers decide the condition
  pub defined-counted : {m n : ℕ} → m ≡ inherited_due b → n ≡ synthesized_due b
      → eqb m (length b.inherited_definitions) && eqb n (length b.synthesized_definitions) ≡ defined b
  unfolding defined
  defined-counted {m} {n} e f =
      rw (e, f)
      (ap₂ ◌&&◌ (decides-same (eq-decides (inherited_due b) (length b.inherited_definitions)) inherited-tight.tells)
      (decides-same (eq-decides (synthesized_due b) (length b.synthesized_definitions)) synthesized-tight.tells)
      ∙ sym (below-and (λ P. all_one_to (length (right_of b.rules P)) (right_defined b P)) (left_defined b) (length b.rules)))

-- opens every definition of this module
unfoldable pub opens : Unit {0}
unfolding inherited_due synthesized_due
opens = tt
