-- The first of conditions 3 to 9 that applies to a book, and the arrays and tables of a book to which none does.
-- Assumes nothing.
use Rattle.std.specs.Prelude.{ℕ, zero, suc, ◌≡◌, refl, Bool, true, false, List}
use Rattle.std.proofs.Common.{sym, ◌∙◌, arith}
use Rattle.grammar.specs.Data.Book.{Book as Lines}
use Rattle.grammar.specs.Format.Ordered.{Ordered}
use Rattle.grammar.specs.BookFacts.{well_named}
use Rattle.grammar.specs.Automaton.States.{KernelRules}
use Rattle.grammar.specs.Automaton.StatesCheck.{kernel_rules}
use Rattle.grammar.specs.Automaton.KernelRulesLaws.{kernel_rules-decides}
use Rattle.book.specs.declared.Book.{Book}
use Rattle.book.specs.Counts.{counts_of}
use Rattle.book.specs.Held.{Held}
use Rattle.book.specs.HeldLaws.{kept-all, within-room}
use Rattle.conditions.specs.AskedLaws.{counted}
use Rattle.automaton.specs.Fronts.{FrontsIn}
use Rattle.compiler.specs.States.{BookHeld, TablesIn, Tabled, tables_refusal, kernels-refused}
use Rattle.compiler.specs.Conditions.{BookKept, conditions_refusal, Met, met}

-- a refusal found so far, or else the next one
unfoldable pub or_else : ℕ → ℕ → ℕ
or_else zero next = next
or_else (suc refusal) next = suc refusal

pub or_else-none : {refusal : ℕ} (next : ℕ) → refusal ≡ 0 → or_else refusal next ≡ next
unfolding or_else
or_else-none {refusal = zero} next e = refl
or_else-none {refusal = suc refusal} next e = absurd (omega arith)

pub or_else-some : {refusal : ℕ} (next : ℕ) → (refusal ≡ 0 → ⊥) → or_else refusal next ≡ refusal
unfolding or_else
or_else-some {refusal = zero} next h = absurd (h refl)
or_else-some {refusal = suc refusal} next h = refl

abbrev pub prepared_refusal : Lines → ℕ
prepared_refusal b = or_else (conditions_refusal b) (tables_refusal b)

-- the book is within its limits, so that all of its lines are in the arrays, and its tables are filled; that of what begins the rests of rules is not said
-- to be in an array still
pub record BookReady (numbers : Book) (inherited synthesized rules definitions kernels goes : List ℕ)
    (nullables reaches bounds closures table actions : List ℕ) (b : Lines) : Type 0 where
  pub begins : List ℕ
  pub numbers_are : numbers ≡ counts_of b
  pub ordered : Ordered b
  pub conditions-met : Met b
  pub kernel-rules : KernelRules b
  pub arrays_in : Held b inherited synthesized rules definitions kernels goes
  pub tables-in : TablesIn b nullables begins reaches bounds closures table actions

-- the refusal r is told, and the book is ready where there is none, with the rules of each state's closure
pub record Prepared (r : ℕ) (numbers : Book) (inherited synthesized rules definitions kernels goes : List ℕ)
    (nullables reaches bounds closures fronts table actions : List ℕ) (b : Lines) : Type 0 where
  pub told : r ≡ prepared_refusal b
  pub ready : r ≡ 0 → BookReady numbers inherited synthesized rules definitions kernels goes nullables reaches bounds closures table actions b
  pub fronts_in : r ≡ 0 → FrontsIn b rules closures fronts

module _ {numbers : Book} {inherited synthesized rules definitions kernels goes : List ℕ} {b : Lines}
    (h : BookKept numbers inherited synthesized rules definitions kernels goes b) {first : ℕ} (told : first ≡ conditions_refusal b) where
  -- one of 3 to 6 applies
  pub prepared-refused : {nullables reaches bounds closures fronts table actions : List ℕ} → (first ≡ 0 → ⊥)
      → Prepared first numbers inherited synthesized rules definitions kernels goes nullables reaches bounds closures fronts table actions b
  prepared-refused n = record {
    told = sym (or_else-some (tables_refusal b) (λ e. n (told ∙ e)) ∙ sym told);
    ready = λ z. absurd (n z);
    fronts_in = λ z. absurd (n z);
  }

  module _ (none : first ≡ 0) where
    all-met : Met b
    all-met = met b (sym told ∙ none)

    arrays-all : Held b inherited synthesized rules definitions kernels goes
    arrays-all = rw (kept-all b (within-room all-met.limits)) at h.arrays_in

    -- what the tables are made of
    pub asked-tables : BookHeld b rules numbers.rules kernels numbers.kernels goes numbers.goes numbers.terminals numbers.states
    asked-tables = let n = counted b h.numbers_are in
        record {
          kernels_held = record {
            ordered = h.ordered;
            limits = all-met.limits;
            declared = all-met.names;
            rules_in = arrays-all.rules_in;
            kernels-in = arrays-all.kernels-in;
            states_are = n.states_are;
          };
          goes_in = arrays-all.goes_in;
          rules_counted = n.rules_are;
          kernels_counted = n.kernels_are;
          goes_counted = n.goes_are;
          terminals_are = n.terminals_are;
        }

    kernels-right : tables_refusal b ≡ 0 → KernelRules b
    kernels-right z = go (kernel_rules b) refl
      where
        go : (k : Bool) → kernel_rules b ≡ k → KernelRules b
        go true e = (kernel_rules-decides (well_named h.ordered all-met.limits all-met.names)).sound e
        go false e = absurd (omega (arith, sym (kernels-refused b e) ∙ z))

    pub prepared-tables : {r : ℕ} {nullables begins reaches bounds closures fronts table actions : List ℕ}
        → Tabled b r rules nullables begins reaches bounds closures fronts table actions
        → Prepared r numbers inherited synthesized rules definitions kernels goes nullables reaches bounds closures fronts table actions b
    prepared-tables {begins = begins} t = record {
      told = t.told ∙ sym (or_else-none (tables_refusal b) (sym told ∙ none));
      ready = λ z. record {
        begins = begins;
        numbers_are = h.numbers_are;
        ordered = h.ordered;
        conditions-met = all-met;
        kernel-rules = kernels-right (sym t.told ∙ z);
        arrays_in = arrays-all;
        tables-in = t.filled z;
      };
      fronts_in = t.fronts_in;
    }

-- opens every definition of this module
unfoldable pub opens : Unit {0}
unfolding or_else
opens = tt
