-- The definitions whose items have a terminal that is wanted: the visits of the others change nothing, so that a pass goes from one of these to the next.
-- Assumes nothing.
use Rattle.std.specs.Prelude.{ℕ, zero, suc, ◌+◌, ◌*◌, ◌-◌, ◌<◌, ◌≤◌, ◌≡◌, Bool, List, length, set}
use Rattle.std.proofs.Common.{arith, sym, ap, ◌∙◌, length-set, get_or-set_same, get_or-set_other}
use Rattle.std.proofs.Math.Decide.{ℕ_discrete}
use Rattle.std.proofs.Math.Path.{refl}
use Rattle.std.proofs.Math.Bool.{true, false}
use Rattle.std.proofs.Math.ListN.{get_or}
use Rattle.sets.specs.Sets.{meets}
use Rattle.grammar.specs.Data.Book.{Book}
use Rattle.grammar.specs.Formulas.Passes.{visits}
use Rattle.grammar.specs.Formulas.FormulaCheck as grammar
use Rattle.grammar.specs.Formulas.FormulaCheck.{Progress, progress, split, dot_of, line_at, due, visit}
use Rattle.attributes.specs.Checking.{member_in, CheckHeld}
use Rattle.attributes.specs.CheckingLaws.{place_is}

-- the set of the item of the definition in a line
abbrev pub item_set : List ℕ → List ℕ → ℕ → ℕ
item_set definitions masks d = get_or masks (9 * get_or definitions (49 * d) 0 + get_or definitions (49 * d + 1) 0 - 1) 0

-- from line i up to line j no item has a terminal that is wanted
pub record Skip (definitions masks : List ℕ) (wanted lines i j : ℕ) : Type 0 where
  pub low : i ≤ j
  pub high : j ≤ lines
  pub absent : (d : ℕ) → i ≤ d → d < j → meets (item_set definitions masks d) wanted ≡ false

-- for the lines from a number on, where to go from them
pub record SkipsFrom (definitions masks : List ℕ) (wanted lines from : ℕ) (skips : List ℕ) : Type 0 where
  pub long : length skips ≡ 129
  pub skip : (i : ℕ) → from ≤ i → i ≤ lines → Skip definitions masks wanted lines i (get_or skips i 0)

-- for all lines
abbrev pub Skips : List ℕ → List ℕ → ℕ → ℕ → List ℕ → Type 0
Skips definitions masks wanted lines skips = SkipsFrom definitions masks wanted lines 0 skips

-- The loop that fills them, from the last line on

module _ {definitions masks : List ℕ} {wanted lines : ℕ} where
  pub skip-none : Skip definitions masks wanted lines lines lines
  skip-none = record { low = omega arith; high = omega arith; absent = λ d l h. absurd (omega arith) }

  pub skip-here : (i : ℕ) → i < lines → Skip definitions masks wanted lines i i
  skip-here i l = record { low = omega arith; high = omega arith; absent = λ d h k. absurd (omega arith) }

  pub skip-on : (i : ℕ) {j : ℕ} → Skip definitions masks wanted lines (i + 1) j → meets (item_set definitions masks i) wanted ≡ false → Skip definitions masks wanted lines i j
  skip-on i {j} S e = record { low = omega (arith, S.low); high = S.high; absent = λ d h k. by d h k (ℕ_discrete d i) }
    where
      by : (d : ℕ) → i ≤ d → d < j → Dec (d ≡ i) → meets (item_set definitions masks d) wanted ≡ false
      by d h k (yes q) = rw q e
      by d h k (no n) = S.absent d (omega arith) k

  pub skips-start : (skips : List ℕ) → length skips ≡ 129 → lines < 129 → SkipsFrom definitions masks wanted lines lines (set skips lines lines)
  skips-start skips m h = record {
    long = length-set skips lines lines ∙ m;
    skip = λ i l k. let e : i ≡ lines = omega arith in rw (e, get_or-set_same skips lines lines 0 (omega arith)) skip-none;
  }

  -- one line less is to come
  pub skip_step : {i j : ℕ} → 1 ≤ i → Skip definitions masks wanted lines i j → Skip definitions masks wanted lines (i - 1 + 1) j
  skip_step {i} {j} p S = let e : i - 1 + 1 ≡ i = omega arith in rw e S

  pub skips-more : (skips : List ℕ) {i j : ℕ} → 1 ≤ i → i ≤ lines → lines < 129 → SkipsFrom definitions masks wanted lines i skips
      → Skip definitions masks wanted lines (i - 1) j → SkipsFrom definitions masks wanted lines (i - 1) (set skips (i - 1) j)
  skips-more skips {i} {j} p l h F S = record { long = length-set skips (i - 1) j ∙ F.long; skip = λ k a b. by k a b (ℕ_discrete k (i - 1)) }
    where
      by : (k : ℕ) → i - 1 ≤ k → k ≤ lines → Dec (k ≡ i - 1) → Skip definitions masks wanted lines k (get_or (set skips (i - 1) j) k 0)
      by k a b (yes q) = rw (q, get_or-set_same skips (i - 1) j 0 (omega (arith, F.long))) S
      by k a b (no n) = rw (get_or-set_other skips (i - 1) k j 0 n) (F.skip k (omega arith) b)

-- Visits

module _ (b : Book) (member : ℕ → ℕ → Bool) where
  -- a definition whose item is not there is not visited
  pub visit-absent : (d : ℕ) → member (line_at b d).rule (dot_of (line_at b d)) ≡ false → (s : Progress) → visit b member d s ≡ s
  unfolding visit due
  visit-absent d e split = refl
  visit-absent d e (progress slots done) = by (get_or done d true) refl
    where
      by : (t : Bool) → get_or done d true ≡ t → visit b member d (progress slots done) ≡ progress slots done
      by true q = rw (visit, q)
      by false q = rw (visit, q, due, e)

-- visits that change nothing
pub visits-on : {T : Type 0} (visit : ℕ → T → T) (i j : ℕ) (s : T) → i ≤ j → ((d : ℕ) → i ≤ d → d < j → (t : T) → visit d t ≡ t)
    → visits visit j s ≡ visits visit i s
unfolding visits
visits-on visit i zero s l still = let e : i ≡ 0 = omega arith in rw e
visits-on visit i (suc j) s l still = by (ℕ_discrete i (suc j)) (λ h. visits-on visit i j s h (λ d a k. still d a (omega arith)))
  where
    by : Dec (i ≡ suc j) → (i ≤ j → visits visit j s ≡ visits visit i s) → visits visit (suc j) s ≡ visits visit i s
    by (yes e) before = rw e
    by (no n) before = still j (omega arith) (omega arith) (visits visit j s) ∙ before (omega arith)

-- the set of a definition's item
pub item-word : {b : Book} {definitions rules owned masks : List ℕ} → CheckHeld b definitions rules owned masks → {d : ℕ} → d < grammar.definitions b
    → get_or masks (9 * (line_at b d).rule + dot_of (line_at b d)) 0 ≡ item_set definitions masks d
item-word {masks = masks} H l = ap (λ (k : ℕ). get_or masks k 0) (place_is H l refl refl)

-- from line i to line j
pub visits-skip : {b : Book} {definitions rules owned masks : List ℕ} → CheckHeld b definitions rules owned masks → {wanted lines i j : ℕ}
    → lines ≡ grammar.definitions b → Skip definitions masks wanted lines i j → (s : Progress)
    → visits (visit b (member_in masks wanted)) i s ≡ visits (visit b (member_in masks wanted)) j s
visits-skip {b} {masks = masks} H {wanted} {lines} {i} {j} e S s =
    sym (visits-on (visit b (member_in masks wanted)) i j s S.low
    λ d a h.
    visit-absent b (member_in masks wanted) d (ap (λ (set : ℕ). meets set wanted) (item-word H (omega (arith, S.high))) ∙ S.absent d a h))
