-- The lines of a rule's definitions of synthesized attributes: no more than its left side may own, and their values worked out one after the other, into
-- the record of the left side. Assumes nothing.
use Rattle.std.specs.Prelude.{ℕ, ◌+◌, ◌≤◌, ◌<◌, ◌≡◌, refl, List, length, set, replicate}
use Rattle.std.proofs.Common.{sym, ◌∙◌}
use native.Mathlib.Omega.{arith}
use Rattle.std.proofs.Math.ListN.{get_or}
use Rattle.grammar.specs.Limits.{MAX_OWNED}
use Rattle.grammar.specs.Data.Symbol.{left_of}
use Rattle.grammar.specs.Data.Term.{eval}
use Rattle.grammar.specs.Data.Book.{Expr, Book}
use Rattle.cells.specs.Values.{place_in, Asked}
use Rattle.stack.specs.Spans.{attribute_word, line_count, attributes-ascend}
use Rattle.stack.specs.Lists.{numbers-few, ascending-few}
use Rattle.stack.specs.NodeValues.{NodeAsked, NodeValues, ValuesBefore, LineOf, rule-lines, line_of, values-none, values-turn, values-end}
use Rattle.stack.specs.PutValues.{values_put, left_record, Putting, put_next}

module _ {b : Book} {definitions spans : List ℕ} {P size : ℕ} (A : NodeAsked b definitions spans P size) where
  abbrev first : ℕ
  first = get_or spans P 0

  pub line_in : (i : ℕ) → i < line_count spans P → LineOf b definitions P size (first + i)
  line_in i h = line_of A (first + i) (omega arith) (omega arith)

  ascend : (i j : ℕ) → i < j → j < line_count spans P → attribute_word definitions (first + i) < attribute_word definitions (first + j)
  ascend i j l h =
      let L = line_in i (omega arith) in
      let M = line_in j h in
      omega (
        arith,
        L.attribute_is,
        M.attribute_is,
        attributes-ascend b.synthesized_definitions A.ordered.synthesized L.number M.number (omega (arith, L.line_is, M.line_is)) M.there
            (L.rule_is ∙ sym M.rule_is),
      )

  -- each is of another attribute of the left side
  pub lines-few : line_count spans P ≤ MAX_OWNED
  lines-few =
      omega (
        arith,
        ascending-few b.synthesized_owners (left_of b.rules P) (λ i. attribute_word definitions (first + i)) (line_count spans P)
            (length b.synthesized_owners) (λ i h. ((line_in i h).attribute_there, (line_in i h).left_owns)) ascend,
        numbers-few b.synthesized_owners (length b.synthesized_owners) (left_of b.rules P) (λ K. K) (omega arith),
        A.limits.synthesized_each (left_of b.rules P),
      )

  pub left-putting : {values : List ℕ} → length values ≡ MAX_OWNED → Putting definitions spans values P
  left-putting e = record {
    lines = rule-lines A;
    few = omega (arith, lines-few);
    attribute_low = λ i h. (line_in i h).attribute_low;
  }

-- the values of the first i lines
abbrev pub LeftBefore : Book → ℕ → ℕ → List ℕ → List ℕ → List ℕ → List ℕ → List ℕ → ℕ → Type 0
LeftBefore b P base inherited synthesized definitions spans values i =
    ValuesBefore b P base inherited synthesized (get_or spans P 0 + i) (values_put definitions values (get_or spans P 0) 1 i (replicate 33 0))

module _ {b : Book} {definitions spans : List ℕ} {P size : ℕ} (A : NodeAsked b definitions spans P size) {base : ℕ} {inherited synthesized : List ℕ} where
  pub left-none : (values : List ℕ) → LeftBefore b P base inherited synthesized definitions spans values 0
  unfolding values_put
  left-none values = let e : get_or spans P 0 + 0 ≡ get_or spans P 0 = omega arith in rw e (values-none A refl)

  -- of a line more
  pub left-turn : (values : List ℕ) {line i v : ℕ} → i < line_count spans P → i < length values → line ≡ get_or spans P 0 + i
      → LeftBefore b P base inherited synthesized definitions spans values i
      → ((e : Expr) → Asked definitions line size e → v ≡ eval e (place_in base inherited synthesized))
      → LeftBefore b P base inherited synthesized definitions spans (set values i v) (i + 1)
  left-turn values {line} {i} {v} h room q W value =
      let e : get_or spans P 0 + (i + 1) ≡ get_or spans P 0 + i + 1 = omega arith in
      rw (e, put_next definitions values (get_or spans P 0) 1 (replicate 33 0) i v room) (values-turn A (line_in A i h) W refl (rw q at value))

  pub left_end : (values : List ℕ) → LeftBefore b P base inherited synthesized definitions spans values (line_count spans P)
      → NodeValues b P base inherited synthesized (left_record definitions spans values P)
  left_end values W = values-end A W (omega arith)
