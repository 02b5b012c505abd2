-- The attributes that definitions give, as sets, copies left out: word 9 * P + D has those that are given at the item (P, D). The leaders are
-- the rules at whose front some are given, as the bits of a number. Assumes nothing.
use Rattle.std.specs.Prelude.{ℕ, ◌+◌, ◌*◌, ◌-◌, ◌^◌, ◌<◌, ◌≤◌, ◌≡◌, Bool, false, ◌&&◌, List, eqb, length, get_or, set}
use Rattle.std.proofs.Common.{arith, sym, ap, ◌∙◌, length-set, get_or-set_same, get_or-set_other}
use Rattle.std.proofs.Math.Decide.{ℕ_discrete}
use Rattle.std.proofs.Math.Path.{refl}
use Rattle.std.proofs.Math.Bool.{true}
use Rattle.std.specs.Int.Bits.{bit_or}
use borrow.Author.Tests.{eqb-true, eq-eqb}
use Rattle.sets.specs.Sets.{bit, single, with}
use Rattle.sets.proofs.SetsLaws.{bit-single, with-keeps, with-self}
use Rattle.sets.specs.Bits.{below_suc}
use Rattle.grammar.specs.Automaton.TestLaws.{true-false}
use Rattle.grammar.specs.Data.Term.{number, leaf, both, pick, nodes}
use Rattle.grammar.specs.Data.Postfix.{postfix}
use Rattle.grammar.specs.Data.Book.{own, at, val, Expr, Book}
use Rattle.grammar.specs.Formulas.FormulaCheck as grammar
use Rattle.grammar.specs.Formulas.FormulaCheck.{dot_of, line_at}
use Rattle.book.specs.Held.{DefinitionsIn, node_kind, node_first, node_at}
use Rattle.attributes.specs.Checking.{CheckHeld}
use Rattle.attributes.specs.CheckingLaws.{rule-word, rule_there, position_high, position-word, attribute-word, attribute_low, place_is}
use Rattle.agreement.specs.Apart.{or_left, or_right}
use Rattle.agreement.specs.Givers.{Copies}

-- the attributes that the first n definitions give
pub record GivenIn (b : Book) (n : ℕ) (given : List ℕ) (leaders : ℕ) : Type 0 where
  pub long : 9 * length b.rules ≤ length given
  pub item_is : (d : ℕ) → d < n → (Copies (line_at b d) → ⊥)
      → bit (get_or given (9 * (line_at b d).rule + dot_of (line_at b d)) 0) (line_at b d).attribute ≡ true
  pub leader_is : (d : ℕ) → d < n → (Copies (line_at b d) → ⊥) → dot_of (line_at b d) ≡ 0 → bit leaders (line_at b d).rule ≡ true

-- before all definitions
pub given-none : (b : Book) {given : List ℕ} (leaders : ℕ) → 9 * length b.rules ≤ length given → GivenIn b 0 given leaders
given-none b leaders long = record {
  long = long;
  item_is = λ d l. absurd (omega arith);
  leader_is = λ d l. absurd (omega arith);
}

-- Copies, by their words

four-true : (s t u v : Bool) → (((s && t) && u) && v) ≡ true → (s ≡ true) × (t ≡ true) × (u ≡ true) × (v ≡ true)
four-true true true true v e = (refl, refl, refl, e)
four-true true true false v e = absurd (true-false refl (sym e))
four-true true false u v e = absurd (true-false refl (sym e))
four-true false t u v e = absurd (true-false refl (sym e))

some-nodes : (e : Expr) → 1 ≤ nodes e
unfolding nodes
some-nodes (number n) = omega arith
some-nodes (leaf a) = omega arith
some-nodes (both o s t) = omega arith
some-nodes (pick c s t) = omega arith

-- an expression of one node that is own of an attribute
own_alone : (e : Expr) {K : ℕ} → nodes e ≡ 1 → node_kind (node_at e 0) ≡ 1 → node_first (node_at e 0) ≡ K → e ≡ leaf (own K)
unfolding nodes postfix node_kind node_first
own_alone (number n) a k f = absurd (omega (arith, k))
own_alone (leaf (own J)) a k f = ap (λ (x : ℕ). leaf (own x)) f
own_alone (leaf (at I J)) a k f = absurd (omega (arith, k))
own_alone (leaf (val I)) a k f = absurd (omega (arith, k))
own_alone (both o s t) a k f = absurd (omega (arith, a, some-nodes s, some-nodes t))
own_alone (pick c s t) a k f = absurd (omega (arith, a, some-nodes c, some-nodes s, some-nodes t))

pub copies-told : (b : Book) {definitions : List ℕ} → DefinitionsIn b.inherited_definitions b.synthesized_definitions definitions → (d : ℕ)
    → d < grammar.definitions b
    → (((eqb (get_or definitions (49 * d + 1) 0) 1 && eqb (get_or definitions (49 * d + 3) 0) 1) && eqb (get_or definitions (49 * d + 4) 0) 1)
    && eqb (get_or definitions (49 * d + 5) 0) (get_or definitions (49 * d + 2) 0)) ≡ true → Copies (line_at b d)
copies-told b {definitions} H d l e =
    let line = H.inherited_is d l in
    let (p, n, k, f) =
    four-true (eqb (get_or definitions (49 * d + 1) 0) 1) (eqb (get_or definitions (49 * d + 3) 0) 1) (eqb (get_or definitions (49 * d + 4) 0) 1)
    (eqb (get_or definitions (49 * d + 5) 0) (get_or definitions (49 * d + 2) 0)) e in
    let alone : nodes (line_at b d).expression ≡ 1 = sym line.nodes_is ∙ eqb-true _ _ n in
    let node = line.node_is 0 (omega (arith, alone)) (omega arith) in
    let kind-place : 49 * d + 4 ≡ 49 * d + 4 + 3 * 0 = omega arith in
    let first-place : 49 * d + 5 ≡ 49 * d + 4 + 3 * 0 + 1 = omega arith in
    let kind : node_kind (node_at (line_at b d).expression 0) ≡ 1 = sym (ap (λ (i : ℕ). get_or definitions i 0) kind-place ∙ node.kind_is) ∙ eqb-true _ _ k in
    let first : node_first (node_at (line_at b d).expression 0) ≡ (line_at b d).attribute =
    sym (ap (λ (i : ℕ). get_or definitions i 0) first-place ∙ node.first_is) ∙ eqb-true _ _ f ∙ line.attribute_is in
    record {
      in_front = omega (arith, line.position_is, eqb-true (get_or definitions (49 * d + 1) 0) 1 p);
      own_is = own_alone (line_at b d).expression alone kind first;
    }

-- One definition more

module _ {b : Book} {definitions rules owned masks : List ℕ} (H : CheckHeld b definitions rules owned masks) {d : ℕ} (l : d < grammar.definitions b)
    {given : List ℕ} {leaders : ℕ} (G : GivenIn b d given leaders) where
  -- an attribute's number is that of a bit
  low : (e : ℕ) → e < grammar.definitions b → (line_at b e).attribute < 32
  low e k = omega (arith, attribute-word H k, attribute_low H k)

  -- where nothing is lost, and the next definition's own is there
  given-more : {more : List ℕ} {next : ℕ} → 9 * length b.rules ≤ length more
      → ((j K : ℕ) → K < 32 → bit (get_or given j 0) K ≡ true → bit (get_or more j 0) K ≡ true) → ((P : ℕ) → bit leaders P ≡ true → bit next P ≡ true)
      → ((Copies (line_at b d) → ⊥) → bit (get_or more (9 * (line_at b d).rule + dot_of (line_at b d)) 0) (line_at b d).attribute ≡ true)
      → ((Copies (line_at b d) → ⊥) → dot_of (line_at b d) ≡ 0 → bit next (line_at b d).rule ≡ true) → GivenIn b (d + 1) more next
  given-more {more} {next} long keep stay item leader = record {
    long = long;
    item_is = λ e k.
        below_suc (λ e. (Copies (line_at b e) → ⊥) → bit (get_or more (9 * (line_at b e).rule + dot_of (line_at b e)) 0) (line_at b e).attribute ≡ true) d e
        (omega arith) (λ h n. keep _ _ (low e (omega arith)) (G.item_is e h n)) item;
    leader_is = λ e k.
        below_suc (λ e. (Copies (line_at b e) → ⊥) → dot_of (line_at b e) ≡ 0 → bit next (line_at b e).rule ≡ true) d e
        (omega arith) (λ h n z. stay _ (G.leader_is e h n z)) leader;
  }

  -- a copy gives nothing
  pub given-copy : Copies (line_at b d) → GivenIn b (d + 1) given leaders
  given-copy copy = given-more G.long (λ j K h e. e) (λ P e. e) (λ n. absurd (n copy)) (λ n. absurd (n copy))

  module _ {rule position attribute word : ℕ} (r : rule ≡ get_or definitions (49 * d) 0) (p : position ≡ get_or definitions (49 * d + 1) 0)
      (a : attribute ≡ get_or definitions (49 * d + 2) 0) (w : word ≡ with (get_or given (9 * rule + position - 1) 0) attribute) where
    abbrev item : ℕ
    item = 9 * rule + position - 1

    -- the item's word stands in the array
    there : item < length given
    there = omega (arith, r, p, rule_there H l, position_high H l, G.long)

    -- what was given stays given
    keeps : (j K : ℕ) → K < 32 → bit (get_or given j 0) K ≡ true → bit (get_or (set given item word) j 0) K ≡ true
    keeps j K h e = by (ℕ_discrete j item)
      where
        by : Dec (j ≡ item) → bit (get_or (set given item word) j 0) K ≡ true
        by (yes q) = rw (q, get_or-set_same given item word 0 there, w) (with-keeps (get_or given item 0) attribute K h (rw q at e))
        by (no n) = rw (get_or-set_other given item j word 0 n) e

    -- and has the attribute
    here : bit (get_or (set given item word) (9 * (line_at b d).rule + dot_of (line_at b d)) 0) (line_at b d).attribute ≡ true
    here =
        rw (← attribute-word H l, ← a, place_is H l r p, get_or-set_same given item word 0 there, w)
        (with-self (get_or given item 0) attribute (omega (arith, a, attribute_low H l)))

    -- with the leaders that it makes
    given-set : {next : ℕ} → ((P : ℕ) → bit leaders P ≡ true → bit next P ≡ true) → (dot_of (line_at b d) ≡ 0 → bit next (line_at b d).rule ≡ true)
        → GivenIn b (d + 1) (set given item word) next
    given-set stay leader = given-more (omega (arith, length-set given item word, G.long)) keeps stay (λ n. here) (λ n. leader)

    -- behind the front
    pub given-behind : (position ≡ 1 → ⊥) → GivenIn b (d + 1) (set given item word) leaders
    given-behind n = given-set (λ P e. e) (λ z. absurd (n (omega (arith, p, position-word H l, (H.line_in d l).position_low))))

    -- at the front
    pub given-front : {one : ℕ} → one ≡ 2 ^ rule → GivenIn b (d + 1) (set given item word) (bit_or leaders one)
    given-front {one} o =
        given-set (or_left leaders one) (λ z. or_right leaders one (line_at b d).rule (rw (o, r, rule-word H l) (unfold single in own (line_at b d).rule)))
      where
        own : (P : ℕ) → bit (single P) P ≡ true
        own P = bit-single P P ∙ eq-eqb P P refl
