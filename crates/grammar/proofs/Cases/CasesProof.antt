-- Every case of the table is answered as expected: one computed test, and the law that turns it into an equation for each case.
-- Assumes nothing.
use Rattle.std.specs.Prelude.{◌≡◌, refl, Bool, true, false, ◌&&◌, eqb, leb, length, ℕ, zero, suc, ◌≤◌}
use Rattle.std.proofs.Common.{ap, ◌∙◌, eqb-true, le-leb, leb-true}
use Rattle.std.proofs.lemmas.Bool.{false≢true}
use mathlib.Core.List.Memᴰ
use mathlib.Core.List.{List, [], ◌∷◌, Memᴰ as Mem}
use Rattle.std.proofs.Math.Option.{Option, none, some}
use Rattle.sets.specs.Sets.{opens as opens-sets}
use Rattle.text.specs.Class.{opens as opens-class}
use Rattle.text.specs.Rest.{opens as opens-rest}
use Rattle.text.specs.Numeral.{opens as opens-numeral}
use Rattle.grammar.specs.Data.Symbol.{opens as opens-symbol}
use Rattle.grammar.specs.Data.Term.{opens as opens-term}
use Rattle.grammar.specs.Data.Book.{opens as opens-book}
use Rattle.grammar.specs.Data.Postfix.{opens as opens-postfix}
use Rattle.grammar.specs.Format.Printer.{opens as opens-printer}
use Rattle.grammar.specs.Format.Ordered.{opens as opens-ordered}
use Rattle.grammar.specs.Format.Reader.{opens as opens-reader}
use Rattle.grammar.specs.Format.Repeat.{opens as opens-repeat}
use Rattle.grammar.specs.Format.Expression.{opens as opens-expression}
use Rattle.grammar.specs.Format.Parse.{opens as opens-parse}
use Rattle.grammar.specs.Conditions.Decides.{opens as opens-decides}
use Rattle.grammar.specs.Conditions.Tests.{opens as opens-conditions}
use Rattle.grammar.specs.Formulas.Formula.{opens as opens-formula}
use Rattle.grammar.specs.Automaton.States.{opens as opens-states}
use Rattle.grammar.specs.Automaton.Fixpoint.{same_sets, opens as opens-fixpoint}
use Rattle.grammar.specs.Automaton.LeastLaws.{same_sets-still}
use Rattle.grammar.specs.Automaton.TestLaws.{both_true}
use Rattle.grammar.specs.Automaton.FirstSets.{opens as opens-first}
use Rattle.grammar.specs.Automaton.ReachSets.{opens as opens-reach}
use Rattle.grammar.specs.Automaton.ClosureSets.{opens as opens-closure}
use Rattle.grammar.specs.Automaton.CoreItems.{opens as opens-core}
use Rattle.grammar.specs.Automaton.Actions.{opens as opens-actions}
use Rattle.grammar.specs.Formulas.Slots.{opens as opens-slots}
use Rattle.grammar.specs.Automaton.StatesCheck.{opens as opens-check}
use Rattle.grammar.specs.Automaton.Compiled.{opens as opens-compiled}
use Rattle.grammar.specs.Refusal.{opens as opens-refusal}
use Rattle.grammar.specs.Evaluator.Decorated.{opens as opens-decorated}
use Rattle.grammar.specs.Evaluator.Rows.{opens as opens-rows}
use Rattle.grammar.specs.Evaluator.Machine.{opens as opens-machine}
use Rattle.grammar.specs.Engine.{Evaluation, opens as opens-engine}
use Rattle.grammar.specs.Cases.CaseBooks.{unlines, opens as opens-books}
use Rattle.grammar.specs.Cases.Cases.{after_reading, calls, Expected, book_refused, message_refused, accepted, expected_reading}
use Rattle.grammar.specs.Cases.Cases.{expected_evaluation, Case, Answered, table, Answer, answer}
use Rattle.grammar.specs.Cases.Cases.{same_refusal, same_evaluation, same_answer, holds_of, holds, opens as opens-cases}
use Rattle.grammar.specs.Limits.{MAX_TEXT, BOOK_WORDS, PAGE_WORDS}
use Rattle.grammar.specs.Data.Book.{Book}
use Rattle.grammar.specs.Format.Parse.{parse_book}
use Rattle.grammar.specs.Format.Packing.{pack}
use Rattle.grammar.specs.Refusal.{Taken, book_refusal, refusal}
use Rattle.grammar.specs.Engine.{reading_of, read_book, stored_book, evaluate_book, evaluate_words}
use Rattle.grammar.specs.Demands.{Stored}
use Rattle.grammar.proofs.StoredLaws.{refusal-taken, taken-parsed, stored-found}

-- opens all that an answer computes with
unfoldable pub opens : Unit {0}
unfolding opens-sets opens-class opens-rest opens-numeral opens-symbol opens-term opens-book opens-postfix opens-printer opens-ordered opens-reader opens-repeat opens-expression opens-parse opens-decides opens-conditions opens-formula opens-states opens-fixpoint opens-first opens-reach opens-closure opens-core opens-actions opens-slots opens-check opens-compiled opens-refusal opens-decorated opens-rows opens-machine opens-engine opens-books opens-cases
opens = tt

table-holds : holds table ≡ true
unfolding opens
table-holds = refl

-- where the refusal is as expected, so is every word of the book
same-reading : (r : ℕ) (e : Expected) (text : List ℕ) → same_refusal r e ≡ true → reading_of r text BOOK_WORDS ≡ expected_reading e text
unfolding same_refusal expected_reading reading_of
same-reading r (book_refused zero) text h = absurd (false≢true h)
same-reading r (book_refused (suc n)) text h = rw (eqb-true r (suc n) h)
same-reading r (message_refused n) text h = rw (eqb-true r 0 h)
same-reading r (accepted count words) text h = rw (eqb-true r 0 h)

same-evaluation : (x y : Evaluation) → same_evaluation x y ≡ true → x ≡ y
unfolding same_evaluation
same-evaluation x y e = go (eqb x.number y.number) (eqb x.count y.count) refl refl e
  where
    go : (s t : Bool) → eqb x.number y.number ≡ s → eqb x.count y.count ≡ t → (s && (t && same_sets x.rows y.rows)) ≡ true → x ≡ y
    go true true p q h =
        let n : x.number ≡ y.number = eqb-true x.number y.number p in
        let c : x.count ≡ y.count = eqb-true x.count y.count q in
        let r : x.rows ≡ y.rows = same_sets-still x.rows y.rows h in
        λ i. record { number = n i; rows = r i; count = c i }
    go true false p q h = absurd (false≢true h)
    go false t p q h = absurd (false≢true h)

stored_answer : (words tokens : List ℕ) (lent : ℕ) {b : Book} → stored_book words ≡ some b → evaluate_words words tokens lent ≡ evaluate_book b tokens lent
unfolding evaluate_words
stored_answer words tokens lent e = rw (e, evaluate_words)

-- what the two calls answer is what is computed without the words of the book
record Computed (text tokens : List ℕ) (a : Answer) : Type 0 where
  reads : read_book text BOOK_WORDS ≡ reading_of a.refusal text BOOK_WORDS
  answers : calls text tokens ≡ a.evaluation

computed : (text tokens : List ℕ) → length text ≤ MAX_TEXT → Computed text tokens (answer text tokens)
unfolding after_reading calls answer read_book reading_of refusal
computed text tokens l = go (parse_book text) refl
  where
    reads : {n : ℕ} → refusal text ≡ n → read_book text BOOK_WORDS ≡ reading_of n text BOOK_WORDS
    reads e = rw (le-leb (length text) MAX_TEXT l, read_book) (ap (λ n. reading_of n text BOOK_WORDS) e)

    after : {n : ℕ} → refusal text ≡ n → calls text tokens ≡ after_reading (reading_of n text BOOK_WORDS) tokens
    after e = ap (λ r. after_reading r tokens) (reads e)

    go : (o : Option Book) → parse_book text ≡ o → Computed text tokens (answer text tokens)
    go none q = rw (q, answer) (record { reads = reads {n = 2} (rw (q, refusal)); answers = after {n = 2} (rw (q, refusal)) })
    go (some b) q = by (book_refusal b) refl
      where
        by : (n : ℕ) → book_refusal b ≡ n → Computed text tokens (answer text tokens)
        by (suc n) z =
            let e : refusal text ≡ suc n = rw (q, refusal) z in
            rw (q, answer) (rw z (record { reads = reads e; answers = after e }))
        by zero z =
            let e : refusal text ≡ 0 = rw (q, refusal) z in
            let t : Taken text = refusal-taken text e in
            let s : Stored (pack BOOK_WORDS text) = record { text = text; its_book = t; short_text = l; filling = refl } in
            let same : t.book ≡ b = let p = taken-parsed t in cc in
            let found : stored_book (pack BOOK_WORDS text) ≡ some b = stored-found (pack BOOK_WORDS text) s ∙ ap some same in
            rw (q, answer) (rw z (record { reads = reads e; answers = after e ∙ stored_answer (pack BOOK_WORDS text) tokens PAGE_WORDS found }))

each_holds : (cs : List Case) → holds cs ≡ true → (c : Case) → Mem c cs → holds_of c ≡ true
unfolding holds
each_holds [] e c m = absurd (Memᴰ.not-nil m)
each_holds (d ∷ ds) e c m = go (holds_of d) refl m (each_holds ds)
  where
    go : (t : Bool) → holds_of d ≡ t → Mem c (d ∷ ds) → (holds ds ≡ true → (c : Case) → Mem c ds → holds_of c ≡ true) → holds_of c ≡ true
    go false q m ih = absurd (false≢true (rw (q, holds) at e))
    go true q (Mem.head p) ih = rw p q
    go true q (Mem.tail n) ih = ih (rw (q, holds) at e) c n

-- every case of the table is answered as expected
pub cases : (c : Case) → Mem c table → Answered c
unfolding holds_of same_answer
cases c m =
    let text : List ℕ = unlines c.lines in
    let a : Answer = answer text c.tokens in
    let (short, same) = both_true (leb (length text) MAX_TEXT) (same_answer a c.expected) (each_holds table table-holds c m) in
    let (r, e) = both_true (same_refusal a.refusal c.expected) (same_evaluation a.evaluation (expected_evaluation c.expected)) same in
    let h : Computed text c.tokens a = computed text c.tokens (leb-true _ _ short) in
    record { book_is = h.reads ∙ same-reading a.refusal c.expected text r; message_is = h.answers ∙ same-evaluation _ _ e }
