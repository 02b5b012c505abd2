-- The cell that is set in the array is the one that the plan's definitions make of zeros over the frames, and the frames stay. Assumes nothing.
use Rattle.std.specs.Prelude.{◌≡◌, ℕ, zero, suc, ◌+◌, ◌*◌, ◌<◌, ◌≤◌, List, [], ◌∷◌, length, take, drop, set, replicate, slice_index, slice_set}
use Rattle.std.proofs.Math.Path.{refl, ap}
use Rattle.std.proofs.Common.{sym, ◌∙◌, arith, length-take, length-drop, get_or-take, get_or-drop, ext_get_or}
use Rattle.std.proofs.Math.Decide.{dec_lt}
use Rattle.std.proofs.Math.ListN.{length-set, get_or-eq_default}
use Rattle.std.proofs.lemmas.List.{drop-set-add}
use Rattle.std.proofs.Math.Seq.{take-set-lt}
use Rattle.grammar.specs.Limits.{MAX_INHERITED}
use Rattle.grammar.specs.Data.Book.{Book}
use Rattle.grammar.specs.Evaluator.Machine.{Frame}
use Rattle.grammar.specs.Formulas.FormulaCheck.{line_at}
use Rattle.grammar.specs.Formulas.Plan.{value_at, value_of}
use Rattle.plans.specs.Planning.{applied}
use Rattle.cells.specs.Frames.{cell_value, FramesIn}
use Rattle.cells.specs.FramesLaws.{Agree, agree_same, agree-set, agree_then, cell-word, cell-past, frames-kept}
use Rattle.cells.specs.FrameValues.{inherited-value}
use Rattle.cells.specs.Cells.{cleared, LineAsked, line_set, lines_set}
use Rattle.cells.specs.CellsLaws.{cleared-long, cleared_at, cleared-before}

-- the words of the cell of height n
abbrev cell_words : ℕ → List ℕ → List ℕ
cell_words n inherited = take 16 (drop (16 * n) inherited)

words_long : (n : ℕ) (inherited : List ℕ) → 16 * n + 16 ≤ length inherited → length (cell_words n inherited) ≡ 16
words_long n inherited h = simp (length-take, length-drop) (omega arith)

words-at : (n : ℕ) (inherited : List ℕ) (K : ℕ) → 16 * n + 16 ≤ length inherited → value_at (cell_words n inherited) K ≡ cell_value inherited n K
words-at n inherited K h = by (dec_lt K 16)
  where
    by : Dec (K < 16) → value_at (cell_words n inherited) K ≡ cell_value inherited n K
    by (yes l) = get_or-take 16 (drop (16 * n) inherited) K 0 l ∙ get_or-drop (16 * n) inherited K 0 ∙ sym (cell-word inherited n K l)
    by (no m) = get_or-eq_default (cell_words n inherited) 0 (omega (arith, words_long n inherited h)) ∙ sym (cell-past inherited n K (omega arith))

words-set : (n : ℕ) (inherited : List ℕ) (K v : ℕ) → K < 16 → cell_words n (slice_set inherited (16 * n + K) v) ≡ slice_set (cell_words n inherited) K v
words-set n inherited K v l = ap (take 16) (drop-set-add (16 * n) inherited K v) ∙ take-set-lt 16 (drop (16 * n) inherited) K v l

words-cleared : (n : ℕ) (inherited : List ℕ) → 16 * n + 16 ≤ length inherited → cell_words n (cleared (16 * n) 16 inherited) ≡ replicate 16 0
words-cleared n inherited h = ext_get_or 0 (cell_words n (cleared (16 * n) 16 inherited)) (replicate 16 0) (words_long n (cleared (16 * n) 16 inherited) long) same
  where
    long : 16 * n + 16 ≤ length (cleared (16 * n) 16 inherited)
    long = omega (arith, cleared-long (16 * n) 16 inherited)

    zeros : (m K : ℕ) → value_at (replicate m 0) K ≡ 0
    zeros zero K = refl
    zeros (suc m) zero = refl
    zeros (suc m) (suc K) = zeros m K

    same : (K : ℕ) → K < length (cell_words n (cleared (16 * n) 16 inherited))
        → slice_index (cell_words n (cleared (16 * n) 16 inherited)) K ≡ slice_index (replicate 16 0) K
    same K l =
        let low : K < 16 = omega (arith, words_long n (cleared (16 * n) 16 inherited) long) in
        get_or-take 16 (drop (16 * n) (cleared (16 * n) 16 inherited)) K 0 low ∙ get_or-drop (16 * n) (cleared (16 * n) 16 inherited) K 0
        ∙ cleared_at (16 * n) 16 inherited K low h ∙ sym (zeros 16 K)

-- what a cell's setting makes of the inherited stack over the frames st
pub record CellSet (b : Book) (states synthesized starts : List ℕ) (st : List Frame) (lines old new : List ℕ) : Type 0 where
  pub long : length new ≡ length old
  pub below : Agree (16 * length st) old new
  pub frames_in : FramesIn states new synthesized starts st
  pub cell_is : (K : ℕ) → cell_value new (length st) K ≡ slice_index (applied b st lines (replicate MAX_INHERITED 0)) K

-- a line's word stands in the cell of height n
module _ (b : Book) (synthesized : List ℕ) (n : ℕ) (inherited : List ℕ) (d : ℕ) where
  line-below : Agree (16 * n) inherited (line_set b synthesized n d inherited)
  unfolding line_set
  line-below = agree-set _ _ (omega arith)

  line-long : length (line_set b synthesized n d inherited) ≡ length inherited
  unfolding line_set
  line-long = length-set inherited _ _

-- what the lines make of a cell that is there
record LinesSet (b : Book) (st : List Frame) (lines old new : List ℕ) : Type 0 where
  long : length new ≡ length old
  below : Agree (16 * length st) old new
  words : cell_words (length st) new ≡ applied b st lines (cell_words (length st) old)

module _ (b : Book) {states synthesized starts : List ℕ} {st : List Frame} (definitions : List ℕ) where
  -- over frames, the value that a line sets is the one that it has over them
  line-words : (inherited : List ℕ) (d : ℕ) → FramesIn states inherited synthesized starts st → 16 * length st + 16 ≤ length inherited
      → LineAsked b definitions (length st) d
      → cell_words (length st) (line_set b synthesized (length st) d inherited)
      ≡ slice_set (cell_words (length st) inherited) (line_at b d).attribute (value_of st (cell_words (length st) inherited) (line_at b d))
  unfolding line_set
  line-words inherited d F h A =
      words-set (length st) inherited (line_at b d).attribute _ A.attribute_low
      ∙ ap (set (cell_words (length st) inherited) (line_at b d).attribute)
      (inherited-value F (cell_words (length st) inherited) (λ K. words-at (length st) inherited K h) (line_at b d) A.deep A.asked.reads)

  lines-set : (lines inherited : List ℕ) → FramesIn states inherited synthesized starts st → 16 * length st + 16 ≤ length inherited
      → ((i : ℕ) → i < length lines → LineAsked b definitions (length st) (slice_index lines i))
      → LinesSet b st lines inherited (lines_set b synthesized (length st) lines inherited)
  unfolding lines_set applied
  lines-set [] inherited F h asked = record { long = refl; below = agree_same; words = refl }
  lines-set (d ∷ ds) inherited F h asked =
      let next : List ℕ = line_set b synthesized (length st) d inherited in
      let kept : FramesIn states next synthesized starts st =
      frames-kept agree_same (line-below b synthesized (length st) inherited d) agree_same agree_same F in
      let S = lines-set ds next kept (omega (arith, line-long b synthesized (length st) inherited d)) (λ i l. asked (suc i) (omega arith)) in
      record {
        long = S.long ∙ line-long b synthesized (length st) inherited d;
        below = agree_then (line-below b synthesized (length st) inherited d) S.below;
        words = S.words ∙ ap (applied b st ds) (line-words inherited d F h (asked zero (omega arith)));
      }

  -- from a cell of zeros
  pub cell_set : (lines inherited : List ℕ) → FramesIn states inherited synthesized starts st → 16 * length st + 16 ≤ length inherited
      → ((i : ℕ) → i < length lines → LineAsked b definitions (length st) (slice_index lines i))
      → CellSet b states synthesized starts st lines inherited (lines_set b synthesized (length st) lines (cleared (16 * length st) 16 inherited))
  cell_set lines inherited F h asked =
      let empty : List ℕ = cleared (16 * length st) 16 inherited in
      let lost : length empty ≡ length inherited = cleared-long (16 * length st) 16 inherited in
      let under : Agree (16 * length st) inherited empty = record { same_word = cleared-before (16 * length st) 16 inherited } in
      let kept : FramesIn states empty synthesized starts st = frames-kept agree_same under agree_same agree_same F in
      let S = lines-set lines empty kept (omega arith) asked in
      record {
        long = S.long ∙ lost;
        below = agree_then under S.below;
        frames_in = frames-kept agree_same S.below agree_same agree_same kept;
        cell_is = λ K.
            sym (words-at (length st) _ K (omega (arith, S.long)))
            ∙ ap (λ l. value_at l K) (S.words ∙ ap (applied b st lines) (words-cleared (length st) inherited h));
      }
