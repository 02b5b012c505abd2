-- The three demands hold of the two calls.
-- Assumes nothing.
use Rattle.std.specs.Prelude.{ℕ, zero, suc, ◌≤◌, ◌&&◌, leb, eqb, length}
use Rattle.std.proofs.Common.{arith, ◌∙◌}
use Rattle.std.proofs.Math.Path.{◌≡◌, refl, ap}
use Rattle.std.proofs.Math.Option.{Option, none, some}
use mathlib.Core.List.{List, [], ◌∷◌}
use Rattle.grammar.specs.Limits.{MAX_TEXT, BOOK_WORDS, PAGE_WORDS, MAX_TOKENS}
use Rattle.grammar.specs.Data.Book.{Book}
use Rattle.grammar.specs.Conditions.Decides.{Decides, by-decided, equivalent, and-decides, then-decides, le-decides, eq-decides, true-decides, OneTo, one_to-decides}
use Rattle.grammar.specs.Evaluator.Tree.{Token, TokenOf, TokensOf, no_tokens, and_tokens}
use Rattle.grammar.specs.Evaluator.Rows.{Row, page}
use Rattle.grammar.specs.Refusal.{Verdict, taken, refusal}
use Rattle.grammar.proofs.RefusalLaws.{refusal-verdict, verdict-refusal}
use Rattle.grammar.specs.Evaluator.Machine.{Tables, Answer, refused, accepted, evaluate}
use Rattle.grammar.proofs.Evaluator.RunRefusals.{refused-late}
use Rattle.grammar.specs.Evaluator.Demand.{Demand3}
use Rattle.grammar.proofs.Evaluator.DemandProof.{demand-3}
use Rattle.grammar.proofs.Evaluator.TakenPremises.{premises}
use Rattle.grammar.proofs.StoredLaws.{refusal-taken, stored-found, found-stored}
use Rattle.grammar.specs.Engine.{reading_of, read_book, tables_of, stored_book, tokens_of, kinds_in, turned_back, evaluation_of}
use Rattle.grammar.specs.Engine.{evaluate_tokens, evaluate_book, evaluate_words}
use Rattle.grammar.specs.Demands.{Taken-right, Refusal-right, Lengths, Reads, wrong_lengths, takes, refuses, Reading-right, Stored, book_of, numbers_of, TokenList}
use Rattle.grammar.specs.Demands.{Evaluates, no_book, wrong_rows, wrong_tokens, wrong_kinds, runs, Evaluating-right, Tables-right, Figures, Figures-right}

-- refusals of a text

pub taken-right : Taken-right
taken-right text = (refusal-taken text, λ t. verdict-refusal text (taken t))

pub refusal-right : Refusal-right
refusal-right text n = (λ e. rw e at (refusal-verdict text), verdict-refusal text)

-- reading

lengths-decides : (text : List ℕ) (lent : ℕ) → Decides (leb (length text) MAX_TEXT && eqb lent BOOK_WORDS) (Lengths text lent)
lengths-decides text lent =
    equivalent (λ h. record { short_text = h.0; all_words = h.1 }) (λ h. (h.short_text, h.all_words))
    (and-decides (le-decides (length text) MAX_TEXT) (eq-decides lent BOOK_WORDS))

answers : (text : List ℕ) (lent n : ℕ) → Lengths text lent → Verdict text n → Reads text lent (reading_of n text lent)
unfolding reading_of
answers text lent zero l v = takes l v
answers text lent (suc n) l v = refuses l (λ (e : suc n ≡ 0). omega arith) v

pub reading-right : Reading-right
unfolding read_book reading_of
reading-right text lent =
    by-decided (lengths-decides text lent)
    (λ e l. rw (e, read_book) (answers text lent (refusal text) l (refusal-verdict text)))
    (λ e h. rw (e, read_book) (wrong_lengths h))

-- token numbers

numbers-back : (tokens : List ℕ) (ks : List Token) → tokens_of tokens ≡ some ks → numbers_of ks ≡ tokens
unfolding tokens_of numbers_of
numbers-back [] ks e = let q : ks ≡ [] = cc in rw q
numbers-back (k ∷ []) ks e = absurd (let z : ◌≡◌ {A = ℕ} 0 1 = cc in omega arith)
numbers-back (k ∷ v ∷ ns) ks e = go (tokens_of ns) refl (numbers-back ns)
  where
    go : (o : Option (List Token)) → tokens_of ns ≡ o → ((ls : List Token) → tokens_of ns ≡ some ls → numbers_of ls ≡ ns) → numbers_of ks ≡ k ∷ v ∷ ns
    go none q ih = absurd (let w : none ≡ some ks = rw (q, tokens_of) at e in let z : ◌≡◌ {A = ℕ} 0 1 = cc in omega arith)
    go (some ls) q ih =
        let w : some (record { kind = k; value = v } ∷ ls) ≡ some ks = rw (q, tokens_of) at e in
        let same : ks ≡ record { kind = k; value = v } ∷ ls = cc in
        rw same (ap (λ l. k ∷ v ∷ l) (ih ls q))

pub tokens-numbers : (ks : List Token) → tokens_of (numbers_of ks) ≡ some ks
unfolding tokens_of numbers_of
tokens-numbers [] = refl
tokens-numbers (k ∷ ks) = rw (tokens-numbers ks, tokens_of)

of-kind : {b : Book} {k : Token} → OneTo b.terminals k.kind → TokenOf b k
of-kind h = record { not_end = h.low; declared = h.high }

to-kind : {b : Book} {k : Token} → TokenOf b k → OneTo b.terminals k.kind
to-kind h = record { low = h.not_end; high = h.declared }

of-tokens : {b : Book} {k : Token} {ks : List Token} → TokensOf b (k ∷ ks) → OneTo b.terminals k.kind × TokensOf b ks
of-tokens (and_tokens h hs) = (to-kind h, hs)

kinds-decides : (b : Book) (ks : List Token) → Decides (kinds_in b.terminals ks) (TokensOf b ks)
unfolding kinds_in
kinds-decides b [] = true-decides no_tokens
kinds-decides b (k ∷ ks) =
    equivalent (λ h. and_tokens (of-kind h.0) h.1) of-tokens (then-decides (one_to-decides b.terminals k.kind) (kinds-decides b ks))

-- evaluating

module _ {words : List ℕ} (s : Stored words) (tokens : List ℕ) (lent : ℕ) (all : lent ≡ PAGE_WORDS) where
  evaluates-list : (ks : List Token) → tokens_of tokens ≡ some ks → Evaluates words tokens lent (evaluate_tokens (book_of s) ks lent)
  unfolding evaluate_tokens
  evaluates-list ks e =
      by-decided (le-decides (length ks) MAX_TOKENS)
      (λ n few. rw (n, evaluate_tokens) (
      let list : TokenList tokens = record { list = ks; its_numbers = numbers-back tokens ks e; few = few } in
      by-decided (kinds-decides (book_of s) ks)
      (λ k kinds. rw k (runs s all list kinds))
      (λ k h. rw k (wrong_kinds s all list h))
      ))
      (λ n h. rw (n, evaluate_tokens) (wrong_tokens s all (λ (l : TokenList tokens).
      let same : l.list ≡ ks = let q : tokens_of (numbers_of l.list) ≡ some l.list = tokens-numbers l.list in let r = l.its_numbers in cc in
      h (rw same at l.few))))

  evaluates-book : Evaluates words tokens lent (evaluate_book (book_of s) tokens lent)
  unfolding evaluate_book
  evaluates-book = rw ((eq-decides lent PAGE_WORDS).complete all, evaluate_book) (go (tokens_of tokens) refl)
    where
      go : (o : Option (List Token)) → tokens_of tokens ≡ o
          → Evaluates words tokens lent (elim o [ none ↦ turned_back 13 lent | some ks ↦ evaluate_tokens (book_of s) ks lent ])
      go none e = wrong_tokens s all (λ (l : TokenList tokens).
          let q : tokens_of (numbers_of l.list) ≡ some l.list = tokens-numbers l.list in
          let r = l.its_numbers in
          let z : ◌≡◌ {A = ℕ} 0 1 = cc in
          omega arith)
      go (some ks) e = evaluates-list ks e

pub evaluating-right : Evaluating-right
unfolding evaluate_words evaluate_book
evaluating-right words tokens lent = go (stored_book words) refl
  where
    with-book : (s : Stored words) → Evaluates words tokens lent (evaluate_book (book_of s) tokens lent)
    with-book s =
        by-decided (eq-decides lent PAGE_WORDS)
        (λ e all. evaluates-book s tokens lent all)
        (λ e h. rw (e, evaluate_book) (wrong_rows s h))

    go : (o : Option Book) → stored_book words ≡ o → Evaluates words tokens lent (evaluate_words words tokens lent)
    go none e = rw (e, evaluate_words) (no_book (λ (s : Stored words). let f = stored-found words s in let z : ◌≡◌ {A = ℕ} 0 1 = cc in omega arith))
    go (some b) e = let (s, same) = found-stored words b e in rw (e, evaluate_words) (rw (← same) (with-book s))

-- figures

evaluation-is : (words : List ℕ) (s : Stored words) (ks : List Token) → length ks ≤ MAX_TOKENS → TokensOf (book_of s) ks
    → evaluate_words words (numbers_of ks) PAGE_WORDS ≡ evaluation_of (evaluate (book_of s) (tables_of (book_of s)) ks) PAGE_WORDS
unfolding evaluate_words evaluate_book evaluate_tokens
evaluation-is words s ks few kinds =
    rw (stored-found words s, evaluate_words)
    (rw (tokens-numbers ks, evaluate_book)
    (rw ((le-decides (length ks) MAX_TOKENS).complete few, evaluate_tokens) (rw ((kinds-decides (book_of s) ks).complete kinds))))

module _ (b : Book) (T : Tables) (ks : List Token) (lent : ℕ) where
  -- 0 is said of an accepted list alone
  zero-accepted : (evaluation_of (evaluate b T ks) lent).number ≡ 0 → (rs : List Row) × (evaluate b T ks ≡ accepted rs)
  unfolding evaluation_of turned_back
  zero-accepted = go (evaluate b T ks) refl
    where
      go : (x : Answer) → evaluate b T ks ≡ x → (evaluation_of x lent).number ≡ 0 → (rs : List Row) × (evaluate b T ks ≡ accepted rs)
      go (accepted rs) e z = (rs, e)
      go (refused n) e z = absurd (let l = refused-late b T ks n e in omega arith)

  -- and 15 where the machine says 15
  refused-fifteen : (evaluation_of (evaluate b T ks) lent).number ≡ 15 → evaluate b T ks ≡ refused 15
  unfolding evaluation_of turned_back
  refused-fifteen = go (evaluate b T ks) refl
    where
      go : (x : Answer) → evaluate b T ks ≡ x → (evaluation_of x lent).number ≡ 15 → evaluate b T ks ≡ refused 15
      go (accepted rs) e z = absurd (let w : ◌≡◌ {A = ℕ} 0 15 = z in omega arith)
      go (refused n) e z = e ∙ ap refused z

accepted-number : (rs : List Row) (lent : ℕ) → (evaluation_of (accepted rs) lent).number ≡ 0
unfolding evaluation_of
accepted-number rs lent = refl

accepted-rows : (rs : List Row) (lent : ℕ) → (evaluation_of (accepted rs) lent).rows ≡ page rs
unfolding evaluation_of
accepted-rows rs lent = refl

accepted-count : (rs : List Row) (lent : ℕ) → (evaluation_of (accepted rs) lent).count ≡ length rs
unfolding evaluation_of
accepted-count rs lent = refl

machine-figures : (b : Book) (T : Tables) (ks : List Token) (lent : ℕ) → Demand3 b T ks → Figures b ks (evaluation_of (evaluate b T ks) lent)
machine-figures b T ks lent D = record {
  exactly = (
    λ z. D.exactly.0 (zero-accepted b T ks lent z),
    λ p. let (rs, e) = D.exactly.1 p in rw e (accepted-number rs lent),
  );
  one_tree = λ z. let (rs, e) = zero-accepted b T ks lent z in D.one_tree e;
  row_count = λ z t q. let (rs, e) = zero-accepted b T ks lent z in ap (λ x. (evaluation_of x lent).count) e ∙ accepted-count rs lent ∙ D.row_count e t q;
  row_words = λ z t q d u.
      let (rs, e) = zero-accepted b T ks lent z in
      ap (λ x. (evaluation_of x lent).rows) e ∙ accepted-rows rs lent ∙ ap page (D.postorder e t q d u);
  has_values = D.has_values;
  no_message = λ z t q. D.no_message (refused-fifteen b T ks lent z) t q;
}

pub tables-right : Tables-right
tables-right words s = premises s.its_book.spelled s.its_book.sound

pub figures-right : Figures-right
figures-right words s ks few kinds =
    let t = s.its_book in
    rw (evaluation-is words s ks few kinds)
    (machine-figures t.book (tables_of t.book) ks PAGE_WORDS (demand-3 t.book (tables_of t.book) (tables-right words s) ks kinds))
