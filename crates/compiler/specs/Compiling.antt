-- The first of conditions 2 to 10 that applies to a text, and the book's arrays and tables where none does.
-- Assumes nothing.
use Rattle.std.specs.Prelude.{ℕ, zero, suc, ◌≤◌, ◌≡◌, Bool, List, length, Option, None, Some, Result, Ok, Err, MatchResult}
use Rattle.std.proofs.Math.Path.{refl, sym, ap}
use Rattle.std.proofs.Common.{◌∙◌, arith}
use Rattle.std.proofs.Math.Bool.{true, false}
use Rattle.std.proofs.Math.Option.{none, some}
use Rattle.grammar.specs.Limits.{MAX_RULES}
use Rattle.grammar.specs.Data.Book.{Book as Lines}
use Rattle.grammar.specs.Format.Parse.{parse_book}
use Rattle.grammar.specs.Format.ParseLaws.{print-parse}
use Rattle.grammar.specs.Conditions.Tests.{within_limits, declared, owned, defined}
use Rattle.grammar.specs.Automaton.Compiled.{states_refusal}
use Rattle.grammar.specs.Refusal.{book_refusal, refusal}
use Rattle.book.specs.declared.Book.{Book}
use Rattle.book.specs.declared.Room.{Room}
use Rattle.book.specs.declared.refusal.Refusal.{Refusal}
use Rattle.book.specs.declared.refusal.Refusal.TheVariants.{Spelling as Misspelt}
use Rattle.book.specs.Counts.{counts_of}
use Rattle.book.specs.Refusals.{number_of, answer_of}
use Rattle.book.specs.Spelling.{Arrays, Roomy, Spelling, Complete}
use Rattle.conditions.specs.AskedLaws.{counted}
use Rattle.conditions.specs.SpellingHeld.{spelled-got, misspelt-none, arrays-held}
use Rattle.automaton.specs.Fronts.{FrontsIn}
use Rattle.attributes.specs.FormulasHeld.{FormulasHeld}
use Rattle.agreement.specs.OneFormula.{FrontsHeld, formulas_right}
use Rattle.compiler.specs.States.{tables_refusal}
use Rattle.compiler.specs.StatesRefusal.{with_formulas, states-refusal}
use Rattle.compiler.specs.Conditions.{
  BookKept,
  conditions_refusal,
  limits-refused,
  names-refused,
  attributes-refused,
  definitions-refused,
  conditions-met,
}
use Rattle.compiler.specs.Prepared.{BookReady, Prepared, or_else, or_else-none, prepared_refusal}

-- a book's refusal r is told, and it is ready where there is none
pub record Checked (r : ℕ) (numbers : Book) (inherited synthesized rules definitions kernels goes : List ℕ)
    (nullables reaches bounds closures table actions : List ℕ) (b : Lines) : Type 0 where
  pub told : r ≡ book_refusal b
  pub ready : r ≡ 0 → BookReady numbers inherited synthesized rules definitions kernels goes nullables reaches bounds closures table actions b

-- a text is a book's, of which something was left out for want of room
pub record LeftOut (room : Room) (text : List ℕ) : Type 0 where
  pub book : Lines
  pub parsed : parse_book text ≡ some book
  pub over : Complete room (counts_of book) → ⊥

-- the same of a text: the refusal is told and the book is ready, where nothing of it was left out
pub record Compiles (room : Room) (text : List ℕ) (compiled : Option (Result Book Refusal)) (inherited synthesized rules definitions kernels goes : List ℕ)
    (nullables reaches bounds closures table actions : List ℕ) : Type 0 where
  pub left_out : compiled ≡ None → LeftOut room text
  pub told : (answer : Result Book Refusal) → compiled ≡ Some answer → answer_of answer ≡ refusal text
  pub fits : (numbers : Book) → compiled ≡ Some (Ok numbers) → Complete room numbers
  pub ready : (numbers : Book) → compiled ≡ Some (Ok numbers) → (b : Lines) → parse_book text ≡ some b
      → BookReady numbers inherited synthesized rules definitions kernels goes nullables reaches bounds closures table actions b

-- ---- the refusal of a book

module _ (b : Lines) where
  first-refused : (n : ℕ) → book_refusal b ≡ suc n → conditions_refusal b ≡ suc n → book_refusal b ≡ with_formulas (prepared_refusal b) (formulas_right b)
  unfolding with_formulas or_else
  first-refused n e c = e ∙ sym (ap (λ (m : ℕ). with_formulas m (formulas_right b)) (ap (λ (m : ℕ). or_else m (tables_refusal b)) c))

  pub book-refusal : book_refusal b ≡ with_formulas (prepared_refusal b) (formulas_right b)
  unfolding book_refusal
  book-refusal = go (within_limits b) refl (declared b) refl (owned b) refl (defined b) refl
    where
      go : (w : Bool) → within_limits b ≡ w → (d : Bool) → declared b ≡ d → (o : Bool) → owned b ≡ o → (f : Bool) → defined b ≡ f
          → book_refusal b ≡ with_formulas (prepared_refusal b) (formulas_right b)
      go false w d _ o _ f _ = first-refused 2 (rw (w, book_refusal)) (limits-refused b w)
      go true w false d o _ f _ = first-refused 3 (rw (w, d, book_refusal)) (names-refused b w d)
      go true w true d false o f _ = first-refused 4 (rw (w, d, o, book_refusal)) (attributes-refused b w d o)
      go true w true d true o false f = first-refused 5 (rw (w, d, o, f, book_refusal)) (definitions-refused b w d o f)
      go true w true d true o true f =
          let e : book_refusal b ≡ states_refusal b = rw (w, d, o, f, book_refusal) in
          e ∙ states-refusal b ∙ ap (λ (m : ℕ). with_formulas m (formulas_right b)) (sym (or_else-none (tables_refusal b) (conditions-met b w d o f)))

-- 10 is not asked where another applies
formulas-later : {refusal : ℕ} (right : Bool) → (refusal ≡ 0 → ⊥) → with_formulas refusal right ≡ refusal
unfolding with_formulas
formulas-later {refusal = zero} right n = absurd (n refl)
formulas-later {refusal = suc m} right n = refl

-- ---- the answer, by what the steps told

module _ {numbers : Book} {inherited synthesized rules definitions kernels goes : List ℕ} {nullables reaches bounds closures table actions : List ℕ}
    {b : Lines} where
  -- what the formulas are made of
  pub asked-formulas : (h : BookReady numbers inherited synthesized rules definitions kernels goes nullables reaches bounds closures table actions b)
      → FormulasHeld b rules numbers.rules definitions numbers.inherited_definitions kernels bounds closures nullables h.begins reaches
      numbers.terminals numbers.states
  asked-formulas h = let n = counted b h.numbers_are in
      record {
        ordered = h.ordered;
        owned = h.conditions-met.attributes;
        defined = h.conditions-met.definitions;
        kernel-rules = h.kernel-rules;
        definitions_in = h.arrays_in.definitions_in;
        marks-held = record {
          items_in = record {
            states_in = record {
              grammar_in = record { limits = h.conditions-met.limits; declared = h.conditions-met.names; rules_in = h.arrays_in.rules_in };
              kernels-in = h.arrays_in.kernels-in;
              bounds_in = h.tables-in.bounds_in;
            };
            closures_in = h.tables-in.items_filled.closures_in;
          };
          rests_in = h.tables-in.items_filled.rests_in;
        };
        rules_counted = n.rules_are;
        definitions-counted = n.inherited_definitions_are;
        terminals_are = n.terminals_are;
        states_are = n.states_are;
      }

  -- with the rules of each state's closure
  pub asked-fronts : {fronts : List ℕ}
      → (h : BookReady numbers inherited synthesized rules definitions kernels goes nullables reaches bounds closures table actions b)
      → FrontsIn b rules closures fronts
      → FrontsHeld b rules numbers.rules definitions numbers.inherited_definitions kernels bounds closures fronts nullables h.begins reaches
      numbers.terminals numbers.states
  asked-fronts h W = record { formulas_held = asked-formulas h; fronts_in = W }

  pub attributes-counted : BookReady numbers inherited synthesized rules definitions kernels goes nullables reaches bounds closures table actions b
      → numbers.inherited ≡ length b.inherited_owners
  attributes-counted h = (counted b h.numbers_are).inherited_are

  pub rules_few : BookReady numbers inherited synthesized rules definitions kernels goes nullables reaches bounds closures table actions b
      → numbers.rules ≤ MAX_RULES
  rules_few h = omega (arith, (counted b h.numbers_are).rules_are, h.conditions-met.limits.rules_limit.high)

  module _ {first : ℕ} {fronts : List ℕ}
      (p : Prepared first numbers inherited synthesized rules definitions kernels goes nullables reaches bounds closures fronts table actions b) where
    pub checked_refused : (first ≡ 0 → ⊥)
        → Checked first numbers inherited synthesized rules definitions kernels goes nullables reaches bounds closures table actions b
    checked_refused n = record { told = p.told ∙ sym (book-refusal b ∙ formulas-later (formulas_right b) (λ e. n (p.told ∙ e))); ready = λ z. absurd (n z) }

    module _ (none : first ≡ 0) {right : Bool} (right_is : right ≡ formulas_right b) where
      pub checked-formulas : right ≡ false
          → Checked 10 numbers inherited synthesized rules definitions kernels goes nullables reaches bounds closures table actions b
      unfolding with_formulas
      checked-formulas f = record {
        told = sym (book-refusal b ∙ rw (sym p.told ∙ none, sym right_is ∙ f));
        ready = λ z. absurd (omega arith);
      }

      pub checked-all : right ≡ true
          → Checked 0 numbers inherited synthesized rules definitions kernels goes nullables reaches bounds closures table actions b
      unfolding with_formulas
      checked-all f = record { told = sym (book-refusal b ∙ rw (sym p.told ∙ none, sym right_is ∙ f)); ready = λ z. p.ready none }

-- ---- the refusal of a text

misspelt-refused : (text : List ℕ) → parse_book text ≡ none → refusal text ≡ 2
unfolding refusal
misspelt-refused text e = rw (e, refusal)

book_refused : (text : List ℕ) (b : Lines) → parse_book text ≡ some b → refusal text ≡ book_refusal b
unfolding refusal
book_refused text b e = rw (e, refusal)

-- ---- what was read

module _ {text : List ℕ} {before stored : Arrays} {read : Option Book} (room : Room) (s : Spelling room text before read stored) where
  -- whatever the arrays hold then
  pub compiles-misspelt : {inherited synthesized rules definitions kernels goes nullables reaches bounds closures table actions : List ℕ} → read ≡ None
      → Compiles room text (Some (Err Misspelt)) inherited synthesized rules definitions kernels goes nullables reaches bounds closures table actions
  unfolding answer_of number_of
  compiles-misspelt h = record {
    left_out = λ e. absurd (cc);
    told = λ answer e. let same : answer ≡ Err Misspelt = cc in rw same (sym (misspelt-refused text (misspelt-none room s h)));
    fits = λ numbers e. absurd (cc);
    ready = λ numbers e. absurd (cc);
  }

  module _ {numbers : Book} (h : read ≡ Some numbers) where
    pub compiles-part : {nullables reaches bounds closures table actions : List ℕ} → (Complete room numbers → ⊥)
        → Compiles room text None stored.inherited stored.synthesized stored.rules stored.definitions stored.kernels stored.goes
        nullables reaches bounds closures table actions
    compiles-part over = spelled-got room s numbers h λ b p n.
        record {
          left_out = λ _. record { book = b; parsed = p; over = rw n at over };
          told = λ answer e. absurd (cc);
          fits = λ numbers e. absurd (cc);
          ready = λ numbers e. absurd (cc);
        }

    module _ (roomy : Roomy room before) (complete : Complete room numbers) where
      read_kept : (b : Lines) → parse_book text ≡ some b
          → BookKept numbers stored.inherited stored.synthesized stored.rules stored.definitions stored.kernels stored.goes b
      read_kept b p =
          let n : numbers ≡ counts_of b = let same : Some numbers ≡ Some (counts_of b) = sym h ∙ s.some_is b p in cc in
          record { numbers_are = n; ordered = (print-parse text b p).1.ordered; arrays_in = arrays-held room s b p roomy (rw n at complete) }

      pub read_some : (b : Lines)
          × BookKept numbers stored.inherited stored.synthesized stored.rules stored.definitions stored.kernels stored.goes b
      read_some = spelled-got room s numbers h λ b p _. (b, read_kept b p)

      pub compiles-checked : {nullables reaches bounds closures table actions : List ℕ} → (checked : Result Unit Refusal)
          → ((b : Lines)
          → BookKept numbers stored.inherited stored.synthesized stored.rules stored.definitions stored.kernels stored.goes b
          → Checked (answer_of checked) numbers stored.inherited stored.synthesized stored.rules stored.definitions stored.kernels stored.goes
          nullables reaches bounds closures table actions b)
          → (answer : Result Book Refusal) → MatchResult checked (λ _. answer ≡ Ok numbers) (λ r. answer ≡ Err r)
          → Compiles room text (Some answer) stored.inherited stored.synthesized stored.rules stored.definitions stored.kernels stored.goes
          nullables reaches bounds closures table actions
      unfolding answer_of
      compiles-checked (Ok _) c answer e = spelled-got room s numbers h λ b p _.
          record {
            left_out = λ f. absurd (cc);
            told = λ answer' f. let same : answer' ≡ Ok numbers = cc in rw same ((c b (read_kept b p)).told ∙ sym (book_refused text b p));
            fits = λ numbers' f. let same : numbers' ≡ numbers = cc in rw same complete;
            ready = λ numbers' f b' p'. let same : numbers' ≡ numbers = cc in rw same ((c b' (read_kept b' p')).ready refl);
          }
      compiles-checked (Err r) c answer e = spelled-got room s numbers h λ b p _.
          record {
            left_out = λ f. absurd (cc);
            told = λ answer' f. let same : answer' ≡ Err r = cc in rw same ((c b (read_kept b p)).told ∙ sym (book_refused text b p));
            fits = λ _ f. absurd (cc);
            ready = λ _ f. absurd (cc);
          }
