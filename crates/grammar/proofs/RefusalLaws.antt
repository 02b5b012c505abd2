-- Demand 2: a text is refused by the first number of 2 to 10 that applies, and taken exactly if none does.
-- Assumes nothing.
use Rattle.std.specs.Prelude.{ℕ, ◌≡◌, refl, List}
use Rattle.std.proofs.Common.{◌∙◌}
use Rattle.std.proofs.Math.Option.{Option, none, some}
use Rattle.grammar.specs.Data.Book.{Book}
use Rattle.grammar.specs.Format.Print.{print_book}
use Rattle.grammar.specs.Format.Ordered.{Spelled}
use Rattle.grammar.specs.Format.Parse.{parse_book}
use Rattle.grammar.specs.Format.ParseLaws.{parse-print, print-parse, parsed-spelled, none-misspelt}
use Rattle.grammar.specs.Conditions.Decides.{Decides, by-decided, false_of}
use Rattle.grammar.specs.Conditions.Meaning.{WithinLimits, Declared, Owned, Defined}
use Rattle.grammar.specs.Conditions.TestsLaws.{within_limits-decides, declared-decides, owned-decides, defined-decides}
use Rattle.grammar.specs.Automaton.States.{KernelRules, GoRules, NoConflict}
use Rattle.grammar.specs.Formulas.Formula.{LrAttributed}
use Rattle.grammar.specs.Automaton.StatesCheck.{kernel_rules, go_rules}
use Rattle.grammar.specs.Automaton.FirstSets.{sets_of}
use Rattle.grammar.specs.Automaton.ReachSets.{reach_sets}
use Rattle.grammar.specs.Automaton.Compiled.{items_table, items_at, cells_table, parts_table, no_conflict, one_formula, states_refusal}
use Rattle.grammar.specs.Automaton.WellNamed.{WellNamed}
use Rattle.grammar.specs.Automaton.ItemsRight.{ItemsRight}
use Rattle.grammar.specs.BookFacts.{well_named, small-book}
use Rattle.grammar.specs.Automaton.ItemsRightLaws.{book-items-right}
use Rattle.grammar.specs.Automaton.KernelRulesLaws.{kernel_rules-decides}
use Rattle.grammar.proofs.Automaton.GoRulesLaws.{go_table-decides}
use Rattle.grammar.specs.Automaton.ActionsLaws.{no_conflict-decides}
use Rattle.grammar.specs.Formulas.FormulaPremises.{formula-premises}
use Rattle.grammar.proofs.Formulas.OneFormulaLaws.{one_formula-decides}
use Rattle.grammar.specs.Refusal.{Sound, Breaks, breaks_limits, breaks_names, breaks_attributes, breaks_definitions}
use Rattle.grammar.specs.Refusal.{breaks_kernel_rules, breaks_go_rules, breaks_no_conflict, breaks_one_formula}
use Rattle.grammar.specs.Refusal.{Verdict, taken, misspelt, broken, book_refusal, refusal}

-- what is said of a book that is spelled right
data Judged (b : Book) : ℕ → Type 0 where
  sound : Sound b → Judged b 0
  breaks : {n : ℕ} → Breaks b n → Judged b n

-- the tests of 7 to 10 as the function asks them, of a book within its limits whose names are declared
module _ {b : Book} (spelled : Spelled b) (limits : WithinLimits b) (names : Declared b) where
  named : WellNamed b
  named = well_named spelled.ordered limits names

  right : ItemsRight b (sets_of b.rules) (reach_sets b.rules (sets_of b.rules))
  right = book-items-right b (small-book spelled.ordered limits names)

  kernels-decides : Decides (kernel_rules b) (KernelRules b)
  kernels-decides = kernel_rules-decides named

  goes-decides : Decides (go_rules b (items_at b (items_table b (sets_of b.rules)))) (GoRules b)
  goes-decides = go_table-decides named right

  conflicts-decides : Decides (no_conflict b (cells_table b (items_table b (sets_of b.rules)))) (NoConflict b)
  conflicts-decides = no_conflict-decides named right

  formulas-decides : Owned b → KernelRules b
      → Decides (one_formula b (parts_table b (sets_of b.rules) (reach_sets b.rules (sets_of b.rules)) (items_table b (sets_of b.rules)))) (LrAttributed b)
  formulas-decides attributes kernels = one_formula-decides right (formula-premises limits names attributes kernels)

module _ (b : Book) (spelled : Spelled b) where
  states-judged : WithinLimits b → Declared b → Owned b → Defined b → Judged b (states_refusal b)
  unfolding states_refusal
  states-judged limits names attributes definitions =
      by-decided (kernels-decides spelled limits names)
      (λ e₇ kernels. by-decided (goes-decides spelled limits names)
      (λ e₈ goes. by-decided (conflicts-decides spelled limits names)
      (λ e₉ conflicts. by-decided (formulas-decides spelled limits names attributes kernels)
      (λ e formulas. rw (e₇, states_refusal) (rw (e₈, e₉, e) (sound (record {
        limits = limits;
        names = names;
        attributes = attributes;
        definitions = definitions;
        kernel-rules = kernels;
        go-rules = goes;
        no-conflict = conflicts;
        one-formula = formulas;
      }))))
      (λ e h. rw (e₇, states_refusal) (rw (e₈, e₉, e) (breaks (breaks_one_formula limits names attributes definitions kernels goes conflicts h)))))
      (λ e₉ h. rw (e₇, states_refusal) (rw (e₈, e₉) (breaks (breaks_no_conflict limits names attributes definitions kernels goes h)))))
      (λ e₈ h. rw (e₇, states_refusal) (rw e₈ (breaks (breaks_go_rules limits names attributes definitions kernels h)))))
      (λ e₇ h. rw (e₇, states_refusal) (breaks (breaks_kernel_rules limits names attributes definitions h)))

  judged : Judged b (book_refusal b)
  unfolding book_refusal
  judged =
      by-decided (within_limits-decides b)
      (λ e₃ limits. by-decided (declared-decides b)
      (λ e₄ names. by-decided (owned-decides b)
      (λ e₅ attributes. by-decided (defined-decides b)
      (λ e₆ definitions. rw (e₃, book_refusal) (rw (e₄, e₅, e₆) (states-judged limits names attributes definitions)))
      (λ e₆ h. rw (e₃, book_refusal) (rw (e₄, e₅, e₆) (breaks (breaks_definitions limits names attributes h)))))
      (λ e₅ h. rw (e₃, book_refusal) (rw (e₄, e₅) (breaks (breaks_attributes limits names h)))))
      (λ e₄ h. rw (e₃, book_refusal) (rw e₄ (breaks (breaks_names limits h)))))
      (λ e₃ h. rw (e₃, book_refusal) (breaks (breaks_limits h)))

  -- a judgment gives the function's answer

  to-states : WithinLimits b → Declared b → Owned b → Defined b → book_refusal b ≡ states_refusal b
  unfolding book_refusal
  to-states limits names attributes definitions =
      rw ((within_limits-decides b).complete limits, book_refusal)
      (rw ((declared-decides b).complete names, (owned-decides b).complete attributes, (defined-decides b).complete definitions))

  answers-sound : Sound b → book_refusal b ≡ 0
  unfolding states_refusal
  answers-sound s =
      to-states s.limits s.names s.attributes s.definitions
      ∙ rw ((kernels-decides spelled s.limits s.names).complete s.kernel-rules, states_refusal)
      (rw (
        (goes-decides spelled s.limits s.names).complete s.go-rules,
        (conflicts-decides spelled s.limits s.names).complete s.no-conflict,
        (formulas-decides spelled s.limits s.names s.attributes s.kernel-rules).complete s.one-formula,
      ))

  answers-breaks : {n : ℕ} → Breaks b n → book_refusal b ≡ n
  unfolding book_refusal states_refusal
  answers-breaks (breaks_limits h) = rw (false_of (within_limits-decides b) h, book_refusal)
  answers-breaks (breaks_names l h) = rw ((within_limits-decides b).complete l, book_refusal) (rw (false_of (declared-decides b) h))
  answers-breaks (breaks_attributes l n h) =
      rw ((within_limits-decides b).complete l, book_refusal) (rw ((declared-decides b).complete n, false_of (owned-decides b) h))
  answers-breaks (breaks_definitions l n a h) =
      rw ((within_limits-decides b).complete l, book_refusal)
      (rw ((declared-decides b).complete n, (owned-decides b).complete a, false_of (defined-decides b) h))
  answers-breaks (breaks_kernel_rules l n a d h) =
      to-states l n a d ∙ rw (false_of (kernels-decides spelled l n) h, states_refusal)
  answers-breaks (breaks_go_rules l n a d k h) =
      to-states l n a d ∙ rw ((kernels-decides spelled l n).complete k, states_refusal) (rw (false_of (goes-decides spelled l n) h))
  answers-breaks (breaks_no_conflict l n a d k g h) =
      to-states l n a d ∙ rw ((kernels-decides spelled l n).complete k, states_refusal)
      (rw ((goes-decides spelled l n).complete g, false_of (conflicts-decides spelled l n) h))
  answers-breaks (breaks_one_formula l n a d k g c h) =
      to-states l n a d ∙ rw ((kernels-decides spelled l n).complete k, states_refusal)
      (rw ((goes-decides spelled l n).complete g, (conflicts-decides spelled l n).complete c, false_of (formulas-decides spelled l n a k) h))

-- what the function answers is what 01 says
pub refusal-verdict : (text : List ℕ) → Verdict text (refusal text)
unfolding refusal
refusal-verdict text = go (parse_book text) refl
  where
    verdict : (b : Book) → Spelled b → text ≡ print_book b → {n : ℕ} → Judged b n → Verdict text n
    verdict b spelled e (sound s) = taken (record { book = b; spelled = spelled; its_text = e; sound = s })
    verdict b spelled e (breaks h) = broken b spelled e h

    go : (o : Option Book) → parse_book text ≡ o → Verdict text (refusal text)
    go none q = rw (q, refusal) (misspelt (none-misspelt text q))
    go (some b) q = let (e, spelled) = print-parse text b q in rw (q, refusal) (verdict b spelled e (judged b spelled))

-- and nothing else is
pub verdict-refusal : (text : List ℕ) {n : ℕ} → Verdict text n → refusal text ≡ n
unfolding refusal
verdict-refusal text (taken t) = rw (t.its_text, parse-print t.book t.spelled, refusal) (answers-sound t.book t.spelled t.sound)
verdict-refusal text (misspelt h) = go (parse_book text) refl
  where
    go : (o : Option Book) → parse_book text ≡ o → refusal text ≡ 2
    go none q = rw (q, refusal)
    go (some b) q = absurd (h (parsed-spelled text b q))
verdict-refusal text (broken b spelled e h) = rw (e, parse-print b spelled, refusal) (answers-breaks b spelled h)
