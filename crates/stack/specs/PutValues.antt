-- The values of a rule's left side, one for each line of the rule's definitions, put into a record by the attributes of the lines. The record stands on
-- the stack, or by itself: its meaning. Assumes nothing.
use Prim.Native.Nat.{ℕ, zero, suc, ◌+◌, ◌≤◌, ◌<◌}
use Rattle.std.specs.Prelude.{◌≡◌, List, get_or, set, replicate}
use Rattle.std.proofs.Math.Path.{refl}
use Rattle.std.proofs.Common.{◌∙◌, add-one}
use native.Mathlib.Omega.{arith}
use Rattle.std.proofs.Math.ListN.{length, length-set, length-replicate}
use Rattle.std.proofs.Math.Seq.{get_or-set_same, get_or-set_other}
use Rattle.stack.specs.Spans.{attribute_word, RuleLines, line_count}
use Rattle.stack.specs.Records.{Stored, stored-set}

-- the first n values are those of the lines from `first` on; attributes' words stand from a place on
unfoldable pub values_put : List ℕ → List ℕ → ℕ → ℕ → ℕ → List ℕ → List ℕ
values_put definitions values first from zero words = words
values_put definitions values first from (suc n) words =
    set (values_put definitions values first from n words) (from + attribute_word definitions (first + n)) (get_or values n 0)

-- those of rule P
abbrev pub lines_put : List ℕ → List ℕ → List ℕ → ℕ → ℕ → List ℕ → List ℕ
lines_put definitions spans values P from words = values_put definitions values (get_or spans P 0) from (line_count spans P) words

-- the record of its left side
abbrev pub left_record : List ℕ → List ℕ → List ℕ → ℕ → List ℕ
left_record definitions spans values P = lines_put definitions spans values P 1 (replicate 33 0)

-- opens every definition of this module
unfoldable pub opens : Unit {0}
unfolding values_put
opens = tt

-- there is a value for each line of rule P, and a word for its attribute
pub record Putting (definitions spans values : List ℕ) (P : ℕ) : Type 0 where
  pub lines : RuleLines definitions spans P
  pub few : line_count spans P ≤ length values
  pub attribute_low : (i : ℕ) → i < line_count spans P → attribute_word definitions (get_or spans P 0 + i) < 32

module _ (definitions values : List ℕ) (first from : ℕ) (words : List ℕ) where
  abbrev puts : List ℕ → ℕ → List ℕ
  puts vs n = values_put definitions vs first from n words

  put-long : (n : ℕ) → length (puts values n) ≡ length words
  unfolding values_put
  put-long zero = refl
  put-long (suc n) = length-set (puts values n) _ _ ∙ put-long n

  put-kept : (n i v : ℕ) → n ≤ i → puts (set values i v) n ≡ puts values n
  unfolding values_put
  put-kept zero i v h = refl
  put-kept (suc n) i v h = rw (put-kept n i v (omega arith), get_or-set_other values i n v 0 (λ e. omega arith))

  -- the value of a line more
  pub put_next : (n v : ℕ) → n < length values → puts (set values n v) (n + 1) ≡ set (puts values n) (from + attribute_word definitions (first + n)) v
  unfolding values_put
  put_next n v h = rw (add-one n, put-kept n n v (omega arith), get_or-set_same values n v 0 h)

-- a loop over the lines of rule P, after i of them
pub record PuttingLines (definitions spans values : List ℕ) (P from : ℕ) (old : List ℕ) (i : ℕ) (new : List ℕ) : Type 0 where
  pub within : i ≤ line_count spans P
  pub words_are : new ≡ values_put definitions values (get_or spans P 0) from i old

module _ {definitions spans values : List ℕ} {P from : ℕ} {old : List ℕ} where
  pub putting-start : PuttingLines definitions spans values P from old 0 old
  unfolding values_put
  putting-start = record { within = omega arith; words_are = refl }

  module _ {i : ℕ} {new : List ℕ} (W : PuttingLines definitions spans values P from old i new) where
    pub putting-turn : {k : ℕ} → i < line_count spans P → k ≡ attribute_word definitions (get_or spans P 0 + i)
        → PuttingLines definitions spans values P from old (i + 1) (set new (from + k) (get_or values i 0))
    unfolding values_put
    putting-turn h e = record { within = omega arith; words_are = rw (add-one i, e, W.words_are) }

    pub putting-end : line_count spans P ≤ i → new ≡ lines_put definitions spans values P from old
    putting-end h =
        let e : i ≡ line_count spans P = omega (arith, W.within) in
        rw e at W.words_are

-- on the stack as in a record by itself
module _ (definitions values : List ℕ) (first : ℕ) {place : ℕ} {old new : List ℕ} (S : Stored place (replicate 33 0) old 33 new)
    (room : place + 33 ≤ length old) where
  put-stored : (n : ℕ) → ((i : ℕ) → i < n → attribute_word definitions (first + i) < 32)
      → Stored place (values_put definitions values first 1 n (replicate 33 0)) old 33 (values_put definitions values first (place + 1) n new)
  unfolding values_put
  put-stored zero low = S
  put-stored (suc n) low =
      let k : ℕ = attribute_word definitions (first + n) in
      let e : place + 1 + k ≡ place + (1 + k) = omega arith in
      let there : 1 + k < 33 = omega (arith, low n (omega arith)) in
      let long : length (values_put definitions values first 1 n (replicate 33 0)) ≡ 33 =
      put-long definitions values first 1 (replicate 33 0) n ∙ length-replicate {A = ℕ} 33 0 in
      rw e (stored-set (put-stored n (λ i l. low i (omega arith))) (1 + k) (get_or values n 0) there (omega arith) room)

pub left-stored : {definitions spans values : List ℕ} {P place : ℕ} {old new : List ℕ} → Putting definitions spans values P
    → Stored place (replicate 33 0) old 33 new → place + 33 ≤ length old
    → Stored place (left_record definitions spans values P) old 33 (lines_put definitions spans values P (place + 1) new)
left-stored {definitions} {spans} {values} {P} R S room = put-stored definitions values (get_or spans P 0) S room (line_count spans P) R.attribute_low
