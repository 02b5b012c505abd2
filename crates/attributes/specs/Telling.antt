-- A state's sets of terminals tell which of the definitions' items are in its partial states (`Tells` of the grammar). Assumes nothing.
use Rattle.std.specs.Prelude.{ℕ, ◌<◌, ◌≡◌, Bool, List}
use Rattle.grammar.specs.Conditions.Decides.{Decides, equivalent, decides-same}
use Rattle.grammar.specs.Data.Book.{Book}
use Rattle.grammar.specs.Format.Ordered.{Ordered}
use Rattle.grammar.specs.Conditions.Meaning.{WithinLimits, Declared}
use Rattle.grammar.specs.BookFacts.{small-book}
use Rattle.grammar.specs.Automaton.Items.{Partial}
use Rattle.grammar.specs.Automaton.FirstSets.{sets_of}
use Rattle.grammar.specs.Automaton.ReachSets.{reach_sets}
use Rattle.grammar.specs.Automaton.ItemsRight.{ItemsRight}
use Rattle.grammar.specs.Automaton.ItemsRightLaws.{book-items-right}
use Rattle.grammar.specs.Formulas.FormulaCheck.{dot_of, line_at, check}
use Rattle.grammar.proofs.Formulas.FormulaCheckLaws.{Tells}
use Rattle.grammar.specs.Formulas.FormulaCheckAll.{CoreIn, SameItems}
use Rattle.grammar.proofs.Formulas.FormulaCheckAll.{check-same}
use Rattle.attributes.specs.Checking.{member_of}
use Rattle.attributes.specs.StateMarks.{StateMarksIn}

module _ {b : Book} (limits : WithinLimits b) (declared : Declared b) (ordered : Ordered b) where
  right : ItemsRight b (sets_of b.rules) (reach_sets b.rules (sets_of b.rules))
  right = book-items-right b (small-book ordered limits declared)

  -- an entry of the state's items that reaches a is an item of the partial state
  pub core-decides : (S a P D : ℕ) {t : Bool} → Decides t (CoreIn b (sets_of b.rules) (reach_sets b.rules (sets_of b.rules)) S a P D)
      → Decides t ((c : ℕ) × Partial b S a P D c)
  core-decides S a P D =
      equivalent
      (λ (M, m, t). let (c, l, r) = right.core_reaches S P D M a m t in (c, (right.core_closure S P D M c m l, r)))
      (λ (c, (closure, reaches)). let (M, m, l) = right.closure_core S P D c closure in (M, m, right.reaches_core S P D M a c m l reaches))

  module _ (S : ℕ) {masks : List ℕ} (H : StateMarksIn b S masks) (a : ℕ) (low : a < 32) where
    -- the sets of a state's items say what any test says that tells them
    pub marks-tell : {member : ℕ → ℕ → Bool} → Tells b S a member → SameItems b (member_of masks a) member
    marks-tell tells d l =
        let P = (line_at b d).rule in
        let D = dot_of (line_at b d) in
        decides-same (core-decides S a P D (H.mark_is d a l low)) (tells P D)

    -- so the check by the sets is that by the test
    pub check-told : {member : ℕ → ℕ → Bool} → Tells b S a member → check b (member_of masks a) ≡ check b member
    check-told {member} tells = check-same b (member_of masks a) member (marks-tell tells)
