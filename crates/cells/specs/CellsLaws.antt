-- Laws of the cell that is set: the words that are cleared, and a loop over the lines of a plan. Assumes nothing.
use Rattle.std.specs.Prelude.{◌≡◌, ℕ, zero, suc, ◌+◌, ◌-◌, ◌<◌, ◌≤◌, List, ◌++◌, length, take, drop, replicate, slice_index, slice_set, refl}
use Rattle.std.proofs.Common.{zero-le, sym, ap, take-append-drop, ◌∙◌, arith, length-drop, length-take-le, length-set, drop_of_length-le, get_or-set_same, get_or-set_other, drop-cons}
use Rattle.std.proofs.lemmas.List.{set-append_right}
use Rattle.std.proofs.lemmas.List.Edits.{fill_more}
use Rattle.std.proofs.Math.Decide.{ℕ_discrete}
use Rattle.std.proofs.Math.Numerals.{add-one}
use Rattle.grammar.specs.Data.Book.{Book}
use Rattle.cells.specs.Cells.{cleared, PlanAsked, line_set, lines_set}
use Rattle.cells.specs.LeavesLaws.{part-word}

pub cleared-long : (from count : ℕ) (words : List ℕ) → length (cleared from count words) ≡ length words
unfolding cleared
cleared-long from zero words = refl
cleared-long from (suc count) words = length-set (cleared from count words) (from + count) 0 ∙ cleared-long from count words

pub cleared_at : (from count : ℕ) (words : List ℕ) (k : ℕ) → k < count → from + count ≤ length words → slice_index (cleared from count words) (from + k) ≡ 0
unfolding cleared
cleared_at from zero words k h l = absurd (let z : ⊥ = omega arith in z)
cleared_at from (suc count) words k h l = by (ℕ_discrete k count) (cleared_at from count words k)
  where
    by : Dec (k ≡ count) → (k < count → from + count ≤ length words → slice_index (cleared from count words) (from + k) ≡ 0)
        → slice_index (slice_set (cleared from count words) (from + count) 0) (from + k) ≡ 0
    by (yes e) earlier = rw e (get_or-set_same (cleared from count words) (from + count) 0 0 (omega (arith, cleared-long from count words)))
    by (no n) earlier =
        get_or-set_other (cleared from count words) (from + count) (from + k) 0 0 (λ e. n (omega arith)) ∙ earlier (omega arith) (omega arith)

pub cleared-before : (from count : ℕ) (words : List ℕ) (i : ℕ) → i < from → slice_index (cleared from count words) i ≡ slice_index words i
unfolding cleared
cleared-before from zero words i h = refl
cleared-before from (suc count) words i h =
    get_or-set_other (cleared from count words) (from + count) i 0 0 (λ e. omega arith) ∙ cleared-before from count words i h

cleared_is : (from count : ℕ) (words : List ℕ) → from + count ≤ length words
    → cleared from count words ≡ take from words ++ (replicate count 0 ++ drop count (drop from words))
unfolding cleared
cleared_is from zero words h = sym (take-append-drop from words)
cleared_is from (suc count) words h =
    let front : length (take from words) ≡ from = length-take-le from words (omega arith) in
    let behind : List ℕ = drop from words in
    let room : count < length behind = simp length-drop (omega arith) in
    ap (λ (l : List ℕ). slice_set l (from + count) 0) (cleared_is from count words (omega arith))
    ∙ set-append_right (take from words) (replicate count 0 ++ drop count behind) from (from + count) 0 front (omega arith)
    ∙ ap (λ (n : ℕ). take from words ++ slice_set (replicate count 0 ++ drop count behind) n 0) (let e : from + count - from ≡ count = omega arith in e)
    ∙ ap (λ (l : List ℕ). take from words ++ l) (fill_more count 0 behind room ∙ ap (λ (n : ℕ). replicate n 0 ++ drop n behind) (add-one count))

-- a part that was lent and filled with zeros
pub cleared-filled : (from count : ℕ) (words : List ℕ) {part : List ℕ} → from + count ≤ length words
    → part ≡ replicate (length (take (from + count - from) (drop from words))) 0
    → take from words ++ (part ++ drop (from + count - from) (drop from words)) ≡ cleared from count words
cleared-filled from count words {part} h e =
    let k : from + count - from ≡ count = omega arith in
    let room : count ≤ length (drop from words) = simp length-drop (omega arith) in
    rw (e, k, length-take-le count (drop from words) room) (sym (cleared_is from count words h))

-- a line of a plan, in the part of the bytes that is lent
pub planned-line : {b : Book} {definitions plan lines : List ℕ} {from count height : ℕ} → PlanAsked b definitions plan from count height lines → (i : ℕ) → i < count
    → slice_index (take (from + count - from) (drop from plan)) i ≡ slice_index lines i
planned-line {plan = plan} {from = from} {count = count} A i h =
    part-word (from + count - from) from i plan (omega arith) ∙ A.row_is.line_is i (omega (arith, A.row_is.count_is))

-- a loop over the lines of a plan, after i of them
pub record SettingLines (b : Book) (synthesized : List ℕ) (height : ℕ) (lines old new : List ℕ) (i : ℕ) : Type 0 where
  pub within : i ≤ length lines
  pub left_is : lines_set b synthesized height (drop i lines) new ≡ lines_set b synthesized height lines old

pub setting-start : {b : Book} {synthesized lines old : List ℕ} {height : ℕ} → SettingLines b synthesized height lines old old 0
setting-start = record { within = zero-le; left_is = refl }

module _ {b : Book} {synthesized lines old new : List ℕ} {height i : ℕ} (W : SettingLines b synthesized height lines old new i) where
  pub setting-end : length lines ≤ i → new ≡ lines_set b synthesized height lines old
  unfolding lines_set
  setting-end h = rw (drop_of_length-le lines h) at W.left_is

  pub setting-turn : {now : List ℕ} → i < length lines → now ≡ line_set b synthesized height (slice_index lines i) new
      → SettingLines b synthesized height lines old now (i + 1)
  unfolding lines_set
  setting-turn h e = record {
    within = omega arith;
    left_is = rw (e, add-one i) (rw (drop-cons lines i 0 h) at W.left_is);
  }
