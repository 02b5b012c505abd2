-- The refusals of a text, 2 to 10 (01, "Turned-back input"): what each says of a text, and the function that answers the first that applies.
-- Assumes nothing.
use Rattle.std.specs.Prelude.{ℕ, ◌≡◌, true, false, List}
use Rattle.std.proofs.Math.Option.{none, some}
use Rattle.grammar.specs.Data.Book.{Book}
use Rattle.grammar.specs.Format.Print.{print_book}
use Rattle.grammar.specs.Format.Ordered.{Spelled, SpelledText}
use Rattle.grammar.specs.Format.Parse.{parse_book}
use Rattle.grammar.specs.Conditions.Meaning.{WithinLimits, Declared, Owned, Defined}
use Rattle.grammar.specs.Conditions.Tests.{within_limits, declared, owned, defined}
use Rattle.grammar.specs.Automaton.States.{KernelRules, GoRules, NoConflict}
use Rattle.grammar.specs.Formulas.Formula.{LrAttributed}
use Rattle.grammar.specs.Automaton.Compiled.{states_refusal}

-- what is asked of a book that is spelled right, 3 to 10
pub record Sound (b : Book) : Type 0 where
  pub limits : WithinLimits b
  pub names : Declared b
  pub attributes : Owned b
  pub definitions : Defined b
  pub kernel-rules : KernelRules b
  pub go-rules : GoRules b
  pub no-conflict : NoConflict b
  pub one-formula : LrAttributed b

-- "A book is taken exactly when it meets" all of it
pub record Taken (text : List ℕ) : Type 0 where
  pub book : Book
  pub spelled : Spelled book
  pub its_text : text ≡ print_book book
  pub sound : Sound book

-- condition n of 3 to 10 is broken, and none before it
pub data Breaks (b : Book) : ℕ → Type 0 where
  breaks_limits : (WithinLimits b → ⊥) → Breaks b 3
  breaks_names : WithinLimits b → (Declared b → ⊥) → Breaks b 4
  breaks_attributes : WithinLimits b → Declared b → (Owned b → ⊥) → Breaks b 5
  breaks_definitions : WithinLimits b → Declared b → Owned b → (Defined b → ⊥) → Breaks b 6
  breaks_kernel_rules : WithinLimits b → Declared b → Owned b → Defined b → (KernelRules b → ⊥) → Breaks b 7
  breaks_go_rules : WithinLimits b → Declared b → Owned b → Defined b → KernelRules b → (GoRules b → ⊥) → Breaks b 8
  breaks_no_conflict : WithinLimits b → Declared b → Owned b → Defined b → KernelRules b → GoRules b → (NoConflict b → ⊥) → Breaks b 9
  breaks_one_formula : WithinLimits b → Declared b → Owned b → Defined b → KernelRules b → GoRules b → NoConflict b → (LrAttributed b → ⊥) → Breaks b 10

-- what 01 answers to a text: 0 where it is taken, 2 where it is no book's text, else "lowest number first"
pub data Verdict (text : List ℕ) : ℕ → Type 0 where
  taken : Taken text → Verdict text 0
  misspelt : (SpelledText text → ⊥) → Verdict text 2
  broken : {n : ℕ} (b : Book) → Spelled b → text ≡ print_book b → Breaks b n → Verdict text n

-- the function

unfoldable pub book_refusal : Book → ℕ
book_refusal b =
    elim (within_limits b) [
      | false ↦ 3
      | true ↦
          elim (declared b) [ false ↦ 4 | true ↦ elim (owned b) [ false ↦ 5 | true ↦ elim (defined b) [ false ↦ 6 | true ↦ states_refusal b ] ] ]
    ]

unfoldable pub refusal : List ℕ → ℕ
refusal text = elim (parse_book text) [ none ↦ 2 | some b ↦ book_refusal b ]

-- opens every definition of this module
unfoldable pub opens : Unit {0}
unfolding book_refusal refusal
opens = tt
