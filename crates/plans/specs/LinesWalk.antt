-- A walk over the definitions whose items are in a partial state, from bit to bit of a number of 64 bits: the others plan nothing and are left out.
-- Assumes nothing.
use Prim.Native.Nat.{ℕ, ◌+◌, ◌*◌, ◌-◌, ◌/◌, ◌%◌, ◌^◌, ◌<◌, ◌≤◌, min}
use Rattle.std.proofs.Math.Numerals.{add-one}
use native.Mathlib.Omega.{arith}
use Rattle.std.proofs.Math.Decide.{dec_lt}
use Rattle.std.specs.Prelude.{◌≡◌, Bool, true, List, get_or}
use Rattle.std.proofs.Common.{sym, ◌∙◌, pow_mono}
use Rattle.std.proofs.Math.Path.{ap}
use Rattle.sets.specs.Sets.{bit}
use Rattle.sets.specs.Bits.{bit_past}
use Rattle.grammar.specs.Automaton.TestLaws.{true-false}
use Rattle.grammar.specs.Data.Book.{Book}
use Rattle.grammar.specs.Formulas.Passes.{visits}
use Rattle.grammar.specs.Formulas.FormulaCheck.{dot_of, definitions, line_at}
use Rattle.automaton.specs.Lefts.{Least, none-bit}
use Rattle.attributes.specs.Skips.{visits-on}
use Rattle.plans.specs.Planning.{Planning, plan_line}
use Rattle.plans.specs.PlanningLaws.{plan_line-absent}
use Rattle.plans.specs.PlanRows.{PlanningIn}
use Rattle.plans.specs.Lines.{line_bit, LinesIn}

-- where the visits of the definitions below a line lead
abbrev pub visited : (b : Book) (member : ℕ → ℕ → Bool) → ℕ → Planning → Planning
visited b member line s = visits (plan_line b member) (min line (definitions b)) s

-- of the lines from one up to another, those whose items are in the partial state are the bits of `rest`
pub record LinesFrom (b : Book) (member : ℕ → ℕ → Bool) (upto rest line : ℕ) : Type 0 where
  pub within : line ≤ upto
  pub low : (i : ℕ) → bit rest i ≡ true → line + i < upto
  pub there : (i : ℕ) → bit rest i ≡ true → line + i < definitions b
  pub line_is : (d : ℕ) → line ≤ d → d < upto → d < definitions b → bit rest (d - line) ≡ member (line_at b d).rule (dot_of (line_at b d))

-- a plan that is being made, the lines from one on to come
pub record Walking (b : Book) (member : ℕ → ℕ → Bool) (upto rest line : ℕ) (s : Planning) (row : List ℕ) (from known count : ℕ) : Type 0 where
  pub lines_from : LinesFrom b member upto rest line
  pub holds : PlanningIn b member (visited b member line s) row from known count

-- The two numbers

-- a number of 64 bits has no others
bit-low : (n i : ℕ) → n < 2 ^ 64 → bit n i ≡ true → i < 64
bit-low n i l e = by (dec_lt i 64)
  where
    by : Dec (i < 64) → i < 64
    by (yes h) = h
    by (no m) =
        let more : 2 ^ 64 ≤ 2 ^ i = pow_mono {i = 64} (omega arith) in
        true-false e (bit_past n i (omega arith))

-- the bits of number j
half-bit : (found : List ℕ) (j i : ℕ) → i < 64 → line_bit found (64 * j + i) ≡ bit (get_or found j 0) i
half-bit found j i h =
    let q : (64 * j + i) / 64 ≡ j = omega arith in
    let r : (64 * j + i) % 64 ≡ i = omega arith in
    rw (q, r)

half-lines : {b : Book} {member : ℕ → ℕ → Bool} {found : List ℕ} → LinesIn b member found → (j : ℕ) → j < 2 → get_or found j 0 < 2 ^ 64
    → LinesFrom b member (64 * j + 64) (get_or found j 0) (64 * j)
half-lines {b} {member} {found} L j two fits = record {
  within = omega arith;
  low = λ i e. omega (arith, bit-low (get_or found j 0) i fits e);
  there = λ i e. by i e (bit-low (get_or found j 0) i fits e) (dec_lt (64 * j + i) (definitions b));
  line_is = λ d f l h.
      let at : 64 * j + (d - 64 * j) ≡ d = omega arith in
      sym (half-bit found j (d - 64 * j) (omega arith)) ∙ ap (line_bit found) at ∙ L.line_is d h;
}
  where
    by : (i : ℕ) → bit (get_or found j 0) i ≡ true → i < 64 → Dec (64 * j + i < definitions b) → 64 * j + i < definitions b
    by i e h (yes l) = l
    by i e h (no n) = true-false (half-bit found j i h ∙ e) (L.none_behind (64 * j + i) (omega arith) (omega arith))

-- The walk

module _ {b : Book} {member : ℕ → ℕ → Bool} {upto rest line : ℕ} {s : Planning} {row : List ℕ} {from known count : ℕ}
    (W : Walking b member upto rest line s row from known count) where
  -- no line is left
  pub walk_end : rest ≡ 0 → PlanningIn b member (visited b member upto s) row from known count
  walk_end z =
      rw (visits-on (plan_line b member) (min line (definitions b)) (min upto (definitions b)) s (omega (arith, W.lines_from.within))
      λ d f l. plan_line-absent b member d
      (sym (W.lines_from.line_is d (omega arith) (omega arith) (omega arith)) ∙ rw z (none-bit (d - line)))) W.holds

  module _ {gap : ℕ} (L : Least rest gap) where
    -- the next line is a definition
    pub walk-there : line + gap < definitions b
    walk-there = W.lines_from.there gap L.own

    -- whose item is in the partial state
    pub walk-own : member (line_at b (line + gap)).rule (dot_of (line_at b (line + gap))) ≡ true
    walk-own =
        let at : line + gap - line ≡ gap = omega arith in
        sym (W.lines_from.line_is (line + gap) (omega arith) (W.lines_from.low gap L.own) walk-there) ∙ ap (bit rest) at ∙ L.own

    -- those before it are left out
    pub walk-next : PlanningIn b member (visits (plan_line b member) (line + gap) s) row from known count
    walk-next =
        let here : min line (definitions b) ≡ line = omega (arith, walk-there) in
        rw (visits-on (plan_line b member) line (line + gap) s (omega arith)
        λ d f l. plan_line-absent b member d
        (sym (W.lines_from.line_is d f (omega (arith, W.lines_from.low gap L.own)) (omega (arith, walk-there))) ∙ L.none (d - line) (omega arith)))
        (rw here at W.holds)

    -- it is visited, and the lines behind it are to come
    pub walk_turn : {next : ℕ} → ((i : ℕ) → bit next i ≡ bit rest (gap + 1 + i)) → {row' : List ℕ} {known' count' : ℕ}
        → PlanningIn b member (plan_line b member (line + gap) (visits (plan_line b member) (line + gap) s)) row' from known' count'
        → Walking b member upto next (line + gap + 1) s row' from known' count'
    unfolding visits
    walk_turn next-is R = record {
      lines_from = record {
        within = omega (arith, W.lines_from.low gap L.own);
        low = λ i e. omega (arith, W.lines_from.low (gap + 1 + i) (sym (next-is i) ∙ e));
        there = λ i e. omega (arith, W.lines_from.there (gap + 1 + i) (sym (next-is i) ∙ e));
        line_is = λ d f l h.
            let at : gap + 1 + (d - (line + gap + 1)) ≡ d - line = omega arith in
            next-is _ ∙ ap (bit rest) at ∙ W.lines_from.line_is d (omega arith) l h;
      };
      holds =
          let here : min (line + gap + 1) (definitions b) ≡ line + gap + 1 = omega (arith, walk-there) in
          rw (here, add-one (line + gap), visits) R;
    }

-- A pass: both numbers

module _ {b : Book} {member : ℕ → ℕ → Bool} {found : List ℕ} (L : LinesIn b member found) (s : Planning) {row : List ℕ} {from known count : ℕ} where
  pub walk-lower : get_or found 0 0 < 2 ^ 64 → PlanningIn b member s row from known count → Walking b member 64 (get_or found 0 0) 0 s row from known count
  unfolding visits
  walk-lower fits R = record {
    lines_from = half-lines L 0 (omega arith) fits;
    holds = let none : min 0 (definitions b) ≡ 0 = omega arith in rw (none, visits) R;
  }

  pub walk-upper : get_or found 1 0 < 2 ^ 64 → PlanningIn b member (visited b member 64 s) row from known count
      → Walking b member 128 (get_or found 1 0) 64 s row from known count
  walk-upper fits R = record { lines_from = half-lines L 1 (omega arith) fits; holds = R }

pub walk-all : (b : Book) (member : ℕ → ℕ → Bool) (s : Planning) {row : List ℕ} {from known count : ℕ} → definitions b ≤ 128
    → PlanningIn b member (visited b member 128 s) row from known count
    → PlanningIn b member (visits (plan_line b member) (definitions b) s) row from known count
walk-all b member s few R = let all : min 128 (definitions b) ≡ definitions b = omega arith in rw all at R
