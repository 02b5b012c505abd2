-- The sets of terminals of the items of kernel lines, line by line from the last on (`of_kernels` of the grammar). Assumes nothing.
use Rattle.std.specs.Prelude.{ℕ, ◌+◌, ◌*◌, ◌-◌, ◌<◌, ◌≤◌, ◌≡◌, List, ◌∷◌, ◌++◌, length, get_or, set}
use Rattle.std.proofs.Common.{arith, ◌∙◌}
use Rattle.std.proofs.Math.Seq.{slice, slice_empty}
use Rattle.sets.specs.Sets.{union}
use Rattle.grammar.specs.Data.Symbol.{right_of, after}
use Rattle.grammar.specs.Data.Book.{Book, Kernel}
use Rattle.grammar.specs.Automaton.FirstSets.{Sets}
use Rattle.grammar.specs.Automaton.ReachSets.{reach_with}
use Rattle.grammar.specs.Automaton.ClosureSets.{set_of}
use Rattle.grammar.specs.Automaton.CoreItems.{Core, core, of_kernels}
use Rattle.book.specs.Held.{KernelsIn, kernel_at}
use Rattle.automaton.specs.StatesIn.{lines_next}
use Rattle.attributes.specs.Marks.{MarksIn, marks-item}

-- a book's kernel lines in an array, each with its dot in a rule
pub record ItemLinesIn (b : Book) (kernels : List ℕ) : Type 0 where
  pub kernels-in : KernelsIn b.kernels kernels
  pub rule_there : (i : ℕ) → i < length b.kernels → (kernel_at b.kernels i).rule < length b.rules
  pub dot_there : (i : ℕ) → i < length b.kernels → (kernel_at b.kernels i).dot ≤ length (right_of b.rules (kernel_at b.kernels i).rule)
  pub short : (i : ℕ) → i < length b.kernels → (kernel_at b.kernels i).dot ≤ 8

-- the item of line i
abbrev pub item_of : List Kernel → ℕ → Core
item_of ks i = let k : Kernel = kernel_at ks i in core k.rule k.dot (set_of k.lookaheads)

-- by the words that were read
module _ {b : Book} {kernels : List ℕ} (L : ItemLinesIn b kernels) (i : ℕ) (h : i < length b.kernels) where
  pub line-below : 5 * i + 4 < length kernels
  line-below = omega (arith, L.kernels-in.long, L.kernels-in.fits)

  module _ {rule dot : ℕ} (rule_is : rule ≡ get_or kernels (5 * i + 1) 0) (dot_is : dot ≡ get_or kernels (5 * i + 2) 0) where
    pub item-place : 9 * rule + dot < 9 * length b.rules
    item-place =
        omega (
          arith,
          rule_is,
          dot_is,
          L.kernels-in.rule_is i h,
          L.kernels-in.dot_is i h,
          L.rule_there i h,
          L.short i h,
        )

    rule-same : rule ≡ (kernel_at b.kernels i).rule
    rule-same = rule_is ∙ L.kernels-in.rule_is i h

    dot-same : dot ≡ (kernel_at b.kernels i).dot
    dot-same = dot_is ∙ L.kernels-in.dot_is i h

    pub item-rule : rule < length b.rules
    item-rule = rw rule-same (L.rule_there i h)

    pub item-dot : dot ≤ length (right_of b.rules rule)
    item-dot = rw (rule-same, dot-same) (L.dot_there i h)

    pub line-marks : {F : Sets} {R : List ℕ} {items : List Core} {masks : List ℕ} → MarksIn b F R items masks
        → MarksIn b F R (item_of b.kernels i ∷ items)
        (set masks (9 * rule + dot) (union (get_or masks (9 * rule + dot) 0) (reach_with F R (after b.rules rule dot) (get_or kernels (5 * i + 4) 0))))
    line-marks {F} {R} H =
        rw (rule-same, dot-same, L.kernels-in.set_is i h)
        (marks-item b F R H (kernel_at b.kernels i).rule (kernel_at b.kernels i).dot (set_of (kernel_at b.kernels i).lookaheads)
        (L.rule_there i h) (omega (arith, L.short i h)))

-- the lines from one up to another, in front of other items

pub lines_start : (Q : List Core → Type 0) (ks : List Kernel) (last : ℕ) {items : List Core} → Q items → Q (of_kernels (slice last last ks) ++ items)
unfolding of_kernels
lines_start Q ks last H = rw (slice_empty last ks) H

pub lines-turn : (Q : List Core → Type 0) (ks : List Kernel) (i last : ℕ) (items : List Core) → 0 < i → i ≤ last → last ≤ length ks
    → Q (item_of ks (i - 1) ∷ (of_kernels (slice i last ks) ++ items)) → Q (of_kernels (slice (i - 1) last ks) ++ items)
unfolding of_kernels
lines-turn Q ks i last items o l f H =
    let up : i - 1 + 1 ≡ i = omega arith in
    let below : i - 1 < last = omega arith in
    let cut : slice (i - 1) last ks ≡ kernel_at ks (i - 1) ∷ slice i last ks = rw up at (lines_next ks below f) in
    rw cut H

-- the same of the sets
pub marks-start : {b : Book} {F : Sets} {R : List ℕ} (ks : List Kernel) (last : ℕ) {items : List Core} {masks : List ℕ} → MarksIn b F R items masks
    → MarksIn b F R (of_kernels (slice last last ks) ++ items) masks
marks-start {b} {F} {R} ks last {masks = masks} H = lines_start (λ items. MarksIn b F R items masks) ks last H

pub marks-turn : {b : Book} {F : Sets} {R : List ℕ} (ks : List Kernel) (i last : ℕ) (items : List Core) {masks : List ℕ} → 0 < i → i ≤ last
    → last ≤ length ks → MarksIn b F R (item_of ks (i - 1) ∷ (of_kernels (slice i last ks) ++ items)) masks
    → MarksIn b F R (of_kernels (slice (i - 1) last ks) ++ items) masks
marks-turn {b} {F} {R} ks i last items {masks} o l f H = lines-turn (λ items. MarksIn b F R items masks) ks i last items o l f H
