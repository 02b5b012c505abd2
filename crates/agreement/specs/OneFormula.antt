-- The one-formula check (10) of all states over a book in arrays, and that it answers what the tables' check answers. Assumes nothing.
use Rattle.std.specs.Prelude.{ℕ, zero, suc, ◌<◌, ◌≡◌, refl, Bool, true, false, List}
use Rattle.std.proofs.Common.{arith, sym, ap, ◌∙◌}
use Rattle.grammar.specs.Conditions.Decides.{all_below}
use Rattle.grammar.specs.Data.Book.{Book}
use Rattle.grammar.specs.BookFacts.{small-book}
use Rattle.grammar.specs.Automaton.Items.{Closure}
use Rattle.grammar.specs.Automaton.FirstSets.{sets_of}
use Rattle.grammar.specs.Automaton.ReachSets.{reach_sets}
use Rattle.grammar.specs.Automaton.ItemsRightLaws.{book-items-right}
use Rattle.grammar.specs.Automaton.Compiled.{items_table, parts_table, one_formula}
use Rattle.grammar.specs.Formulas.PartialLaws.{partial_at}
use Rattle.grammar.proofs.Formulas.PartialLaws.{partial-items}
use Rattle.grammar.specs.Formulas.FormulaCheck.{check, check_all, listed}
use Rattle.grammar.proofs.Formulas.FormulaCheckLaws.{Tells}
use Rattle.grammar.proofs.Formulas.FormulaCheckAll.{listed-tells, book-check_all}
use Rattle.automaton.specs.Fronts.{FrontsIn}
use Rattle.attributes.specs.Checking.{member_of}
use Rattle.attributes.specs.FormulasHeld.{FormulasHeld, limits, declared, held-lines}
use Rattle.attributes.specs.StateMarks.{StateMarksIn}
use Rattle.attributes.specs.Telling.{check-told}
use Rattle.attributes.specs.Wanted.{all-below}
use Rattle.agreement.specs.Givers.{check-once}
use Rattle.agreement.specs.SingleState.{Single}

-- in every partial state each attribute has one formula (10)
abbrev pub formulas_right : Book → Bool
formulas_right b = one_formula b (parts_table b (sets_of b.rules) (reach_sets b.rules (sets_of b.rules)) (items_table b (sets_of b.rules)))

-- the test of the items that the grammar lists for a partial state
abbrev pub listed_in : Book → ℕ → ℕ → ℕ → ℕ → Bool
listed_in b S a = listed (partial_at b (sets_of b.rules) (reach_sets b.rules (sets_of b.rules)) S a)

-- 10, of the partial states of one state
abbrev pub state_right : Book → ℕ → Bool
state_right b S = all_below (suc b.terminals) (λ a. check b (listed_in b S a))

-- a book in the arrays from which its formulas are worked out, with the rules of each state's closure
pub record FrontsHeld (b : Book) (rules : List ℕ) (count : ℕ) (definitions : List ℕ) (lines : ℕ)
    (kernels bounds closures fronts nullables begins reaches : List ℕ) (terminals states : ℕ) : Type 0 where
  pub formulas_held : FormulasHeld b rules count definitions lines kernels bounds closures nullables begins reaches terminals states
  pub fronts_in : FrontsIn b rules closures fronts

-- tests that agree
same-below : (f g : ℕ → Bool) (n : ℕ) → ((i : ℕ) → i < n → f i ≡ g i) → all_below n f ≡ all_below n g
unfolding all_below
same-below f g zero e = refl
same-below f g (suc n) e =
    ap (λ (t : Bool). elim t [ true ↦ f n | false ↦ false ]) (same-below f g n (λ i l. e i (omega arith)))
    ∙ ap (λ (t : Bool). elim (all_below n g) [ true ↦ t | false ↦ false ]) (e n (omega arith))

module _ {b : Book} {rules : List ℕ} {count : ℕ} {definitions : List ℕ} {lines : ℕ} {kernels bounds closures nullables begins reaches : List ℕ}
    {terminals states : ℕ} (H : FormulasHeld b rules count definitions lines kernels bounds closures nullables begins reaches terminals states) where
  listed-tell : (S a : ℕ) → Tells b S a (listed_in b S a)
  listed-tell S a = listed-tells _ (partial-items (book-items-right b (small-book H.ordered (limits H) (declared H))) S a)

  -- the check by the sets of a state's items
  pub state-told : (S : ℕ) {masks : List ℕ} → StateMarksIn b S masks
      → all_below (suc b.terminals) (λ a. check b (member_of masks a)) ≡ state_right b S
  state-told S {masks} M =
      same-below (λ a. check b (member_of masks a)) (λ a. check b (listed_in b S a)) (suc b.terminals) λ a l.
      check-told (limits H) (declared H) H.ordered S M a (omega (arith, (limits H).terminals_limit.high)) (listed-tell S a)

  -- of a state where each attribute is given once
  pub state-single : (S : ℕ) → Single b S → true ≡ state_right b S
  state-single S single = all-below (λ a. check b (listed_in b S a)) (suc b.terminals) λ a l.
      let in-closure : (P D : ℕ) → listed_in b S a P D ≡ true → (c : ℕ) × Closure b S P D c = λ P D m.
      let (c, there) = (listed-tell S a P D).sound m in (c, there.0) in
      check-once b (listed_in b S a) (held-lines H).1.premises λ d e h k m n. single d e h k (in-closure _ _ m) (in-closure _ _ n)

  -- of all states
  pub states-told : all_below b.states (state_right b) ≡ formulas_right b
  unfolding check_all
  states-told = book-check_all H.ordered (limits H) (declared H) H.owned H.defined H.kernel-rules (listed_in b) (λ S a l m. listed-tell S a)

  -- of all states, where that is so in each
  pub states-single : ((S : ℕ) → S < b.states → Single b S) → true ≡ formulas_right b
  states-single single = all-below (state_right b) b.states (λ S l. sym (state-single S (single S l))) ∙ states-told
