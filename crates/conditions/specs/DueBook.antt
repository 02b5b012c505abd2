-- Condition 6, from arrays to the book that they hold: what is due by the words of owners and rules is what is due in the book.
-- Assumes nothing.
use Rattle.std.specs.Prelude.{ℕ, suc, ◌+◌, ◌*◌, ◌≤◌, ◌<◌, ◌≡◌, ◌&&◌, List, length}
use Rattle.std.proofs.Math.Path.{ap, ap₂}
use Rattle.std.proofs.Common.{◌∙◌, arith}
use Rattle.std.proofs.Math.Dec.{eqb}
use Rattle.std.proofs.Math.ListN.{get_or}
use Rattle.grammar.specs.Conditions.Decides.{OneTo, decides-same, equivalent, eq-decides}
use Rattle.grammar.specs.Conditions.Meaning.{IsNonterminal}
use Rattle.grammar.specs.Conditions.Tests.{nonterminal_at, defined}
use Rattle.grammar.specs.Conditions.MeaningLaws.{right-length, left-declared}
use Rattle.grammar.specs.Data.Symbol.{left_of, right_of}
use Rattle.grammar.specs.Data.Book.{Book as Lines, inherited_owner, synthesized_owner}
use Rattle.book.specs.declared.Book.{Book}
use Rattle.conditions.specs.Asked.{OwnedBook}
use Rattle.conditions.specs.OwnedLaws.{right_low, nonterminal-word, inherited-owner, synthesized-owner}
use Rattle.conditions.specs.Sums.{sum, one, sum_same}
use Rattle.conditions.specs.Due.{owned_by, LowOwners, Counts, LowRules, right_count, right_due, left_due}
use Rattle.conditions.specs.DefinedLaws.{inherited_due, synthesized_due, defined-counted}

-- words are the same where nonterminals are
word_same : (A B : ℕ) → eqb (32 + A) (32 + B) ≡ eqb B A
word_same A B = decides-same (eq-decides (32 + A) (32 + B)) (equivalent (λ (e : B ≡ A). omega arith) (λ e. omega arith) (eq-decides B A))

module _ {numbers : Book} {inherited synthesized rules : List ℕ} {b : Lines} (h : OwnedBook numbers inherited synthesized rules b) where
  -- owners are small
  small : {A : ℕ} → IsNonterminal b A → A < 32
  small n = omega (arith, n.high, h.declared_in.symbols_in.within.nonterminals_limit.high)

  inherited-small : (K : ℕ) → K < length b.inherited_owners → inherited_owner b K < 32
  inherited-small K l = small (inherited-owner h.declared_in.symbols_in K l)

  synthesized-small : (K : ℕ) → K < length b.synthesized_owners → synthesized_owner b K < 32
  synthesized-small K l = small (synthesized-owner h.declared_in.symbols_in K l)

  -- what the code reads is there
  pub inherited-low : LowOwners inherited numbers.inherited
  inherited-low =
      let o = h.declared_in.inherited-in in
      let e : numbers.inherited ≡ length b.inherited_owners = h.counted.inherited_are in
      record {
        few = omega (arith, o.fits);
        long = omega (arith, o.fits, o.long);
        low = λ K l. rw (o.owner_is K (omega arith)) (inherited-small K (omega arith));
      }

  pub synthesized-low : LowOwners synthesized numbers.synthesized
  synthesized-low =
      let o = h.declared_in.synthesized-in in
      let e : numbers.synthesized ≡ length b.synthesized_owners = h.counted.synthesized_are in
      record {
        few = omega (arith, o.fits);
        long = omega (arith, o.fits, o.long);
        low = λ K l. rw (o.owner_is K (omega arith)) (synthesized-small K (omega arith));
      }

  -- right symbol D of rule P, the first being 0
  module _ (P D : ℕ) (there : P < length b.rules) (l : D < length (right_of b.rules P)) where
    position : OneTo (length (right_of b.rules P)) (suc D)
    position = record { low = omega arith; high = omega arith }

    word-place : 10 * P + 1 + suc D ≡ 10 * P + 2 + D
    word-place = omega arith

    symbol_low : get_or rules (10 * P + 2 + D) 0 < 64
    symbol_low = rw word-place at (right_low h.declared_in.symbols_in P (suc D) there position)

    symbol-owner : (A : ℕ) → A < 32 → eqb (get_or rules (10 * P + 2 + D) 0) (32 + A) ≡ nonterminal_at b P (suc D) A
    symbol-owner A s = rw word-place at (nonterminal-word h.declared_in.symbols_in P (suc D) there position A s)

  pub low-rules : LowRules rules numbers.rules
  low-rules =
      let r = h.declared_in.symbols_in.rules_in in
      let e : numbers.rules ≡ length b.rules = h.counted.rules_are in
      record {
        few = omega (arith, r.fits);
        right = λ P l.
            let size : get_or rules (10 * P + 1) 0 ≡ length (right_of b.rules P) = r.size_is P (omega arith) in
            record {
              long = omega (arith, r.long);
              few = omega (arith, right-length h.declared_in.symbols_in.within P);
              low = λ D m. symbol_low P D (omega arith) (omega arith);
            };
        left = λ P l.
            let left : left_of b.rules P ≤ b.nonterminals = left-declared h.declared P (omega arith) in
            record {
              long = omega (arith, r.long);
              low = omega (arith, r.left_is P (omega arith), h.declared_in.symbols_in.within.nonterminals_limit.high);
            };
      }

  -- what is due by words is what is due
  inherited-due : {counts : List ℕ} → Counts inherited numbers.inherited counts → sum numbers.rules (right_due rules counts) ≡ inherited_due b
  unfolding right_due right_count owned_by inherited_due
  inherited-due c =
      let r = h.declared_in.symbols_in.rules_in in
      rw h.counted.rules_are (sum_same (length b.rules) λ P l.
      rw (r.size_is P l) (sum_same (length (right_of b.rules P)) λ D m.
      c.count_is (get_or rules (10 * P + 2 + D) 0) (symbol_low P D l m) ∙ rw h.counted.inherited_are (sum_same (length b.inherited_owners) λ K n.
      ap one (ap (λ (A : ℕ). eqb (get_or rules (10 * P + 2 + D) 0) (32 + A)) (h.declared_in.inherited-in.owner_is K n)
      ∙ symbol-owner P D l m (inherited_owner b K) (inherited-small K n)))))

  synthesized-due : {counts : List ℕ} → Counts synthesized numbers.synthesized counts → sum numbers.rules (left_due rules counts) ≡ synthesized_due b
  unfolding left_due owned_by synthesized_due
  synthesized-due c =
      let r = h.declared_in.symbols_in.rules_in in
      rw h.counted.rules_are (sum_same (length b.rules) λ P l.
      let there : P < numbers.rules = omega (arith, h.counted.rules_are) in
      c.count_is (32 + get_or rules (10 * P) 0) (omega (arith, (low-rules.left P there).low))
      ∙ rw h.counted.synthesized_are (sum_same (length b.synthesized_owners) λ K n.
      ap one (word_same (get_or rules (10 * P) 0) (get_or synthesized K 0) ∙ ap₂ eqb (h.declared_in.synthesized-in.owner_is K n) (r.left_is P l))))

  -- the two numbers decide the condition
  pub defined-answer : {down up : List ℕ} → Counts inherited numbers.inherited down → Counts synthesized numbers.synthesized up → {m n : ℕ}
      → m ≡ sum numbers.rules (right_due rules down) → n ≡ sum numbers.rules (left_due rules up)
      → eqb m numbers.inherited_definitions && eqb n numbers.synthesized_definitions ≡ defined b
  defined-answer d u e f =
      rw (h.counted.inherited_definitions_are, h.counted.synthesized_definitions_are)
      (defined-counted h.ordered h.declared h.owned (e ∙ inherited-due d) (f ∙ synthesized-due u))
