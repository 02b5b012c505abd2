-- The sets of terminals of a state's items (`core_items` of the grammar) that definitions are of, from a book in arrays. Assumes nothing.
use Rattle.std.specs.Prelude.{ℕ, ◌+◌, ◌*◌, ◌<◌, ◌≤◌, ◌≡◌, List, ◌++◌, length, get_or}
use Rattle.std.proofs.Common.{arith}
use Rattle.std.proofs.Math.Seq.{slice}
use Rattle.sets.specs.Sets.{bit}
use Rattle.grammar.specs.Conditions.Decides.{Decides}
use Rattle.grammar.specs.Data.Book.{Book}
use Rattle.grammar.specs.Conditions.MeaningLaws.{right-length, left-declared}
use Rattle.grammar.specs.Automaton.FirstSets.{sets_of}
use Rattle.grammar.specs.Automaton.ReachSets.{reach_sets}
use Rattle.grammar.specs.Automaton.ClosureSets.{closure_sets}
use Rattle.grammar.specs.Automaton.CoreItems.{of_kernels, of_rules, core_items}
use Rattle.grammar.specs.Formulas.FormulaCheck as grammar
use Rattle.grammar.specs.Formulas.FormulaCheck.{dot_of, line_at}
use Rattle.grammar.specs.Formulas.FormulaCheckAll.{CoreIn}
use Rattle.book.specs.Held.{kernel_at}
use Rattle.items.specs.RestSets.{RestSetsIn}
use Rattle.automaton.specs.StatesIn.{ItemsIn, Range, kernel_there, state-range, state-bounds}
use Rattle.attributes.specs.Marks.{MarksIn, MarksRoom}
use Rattle.attributes.specs.Checking.{CheckHeld}
use Rattle.attributes.specs.MarkFronts.{LooksIn}
use Rattle.attributes.specs.MarkLines.{ItemLinesIn}

-- a book's states with their closures in arrays, and the sets of the rules' rests
pub record MarksHeld (b : Book) (rules kernels bounds closures nullables begins reaches : List ℕ) : Type 0 where
  pub items_in : ItemsIn b (sets_of b.rules) rules kernels bounds closures
  pub rests_in : RestSetsIn b.rules nullables begins reaches

-- the sets of a state's items, where definitions are of them
pub record StateMarksIn (b : Book) (S : ℕ) (masks : List ℕ) : Type 0 where
  pub long : 9 * length b.rules ≤ length masks
  pub mark_is : (d a : ℕ) → d < grammar.definitions b → a < 32
      → Decides (bit (get_or masks (9 * (line_at b d).rule + dot_of (line_at b d)) 0) a)
      (CoreIn b (sets_of b.rules) (reach_sets b.rules (sets_of b.rules)) S a (line_at b d).rule (dot_of (line_at b d)))

module _ {b : Book} {rules kernels bounds closures nullables begins reaches : List ℕ} (H : MarksHeld b rules kernels bounds closures nullables begins reaches) where
  pub marks-room : {definitions owned cleared masks : List ℕ} → CheckHeld b definitions rules owned cleared → length masks ≡ length cleared
      → MarksRoom b.rules nullables reaches masks
  marks-room C e = record {
    nullables_long = H.rests_in.suffixes_in.nullables_long;
    reaches_long = H.rests_in.reaches_in.long;
    masks_long = omega (arith, e, C.masks_long);
  }

  pub item-lines : ItemLinesIn b kernels
  item-lines =
      let states = H.items_in.states_in in
      let declared = states.grammar_in.declared in
      record {
        kernels-in = states.kernels-in;
        rule_there = λ i h. (kernel_there declared i h).rule_there;
        dot_there = λ i h. (kernel_there declared i h).dot_there;
        short = λ i h.
            omega (arith, (kernel_there declared i h).dot_there, right-length states.grammar_in.limits (kernel_at b.kernels i).rule);
      }

  module _ {S : ℕ} (s : S < b.states) where
    pub state-looks : LooksIn b.rules rules (closure_sets b (sets_of b.rules) S) closures (32 * S)
    state-looks =
        let grammar = H.items_in.states_in.grammar_in in
        record {
          rules_in = grammar.rules_in;
          left_low = λ P p. omega (arith, left-declared grammar.declared P p, grammar.limits.nonterminals_limit.high);
          look_is = λ A l. H.items_in.closures_in.set_is S A s l;
        }

    pub looks-below : 32 * S + 32 ≤ length closures
    looks-below = omega (arith, H.items_in.closures_in.long, H.items_in.states_in.grammar_in.limits.states_limit.high)

    pub bounds-below : S + 1 < length bounds
    bounds-below = state-bounds H.items_in.states_in S s

    module _ {first last : ℕ} (first_is : first ≡ get_or bounds S 0) (last_is : last ≡ get_or bounds (S + 1) 0) where
      pub range : Range b S first last
      range = rw (first_is, last_is) (state-range H.items_in.states_in S s)

      -- the items with the dot in front, then those of the kernel lines
      pub marks-state : {masks : List ℕ}
          → MarksIn b (sets_of b.rules) (reach_sets b.rules (sets_of b.rules))
          (of_kernels (slice first last b.kernels) ++ of_rules b.rules (closure_sets b (sets_of b.rules) S) (length b.rules)) masks
          → StateMarksIn b S masks
      unfolding core_items
      marks-state M =
          let all = rw (← range.lines_are) at M in
          record { long = all.long; mark_is = all.mark_is }
