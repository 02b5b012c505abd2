-- What the two calls say of a book's text and the tokens' numbers: no more rows than there is room for, and as much of too many tokens as is kept.
-- Assumes nothing.
use Rattle.std.specs.Prelude.{ℕ, zero, suc, ◌*◌, ◌≤◌, ◌<◌, ◌≡◌, refl, Bool, true, false, List, [], ◌∷◌, ltb, length, take}
use Rattle.std.proofs.Common.{sym, ◌∙◌, arith, length-take, take_all, le-leb, ltb-true, ltb-false}
use Rattle.std.proofs.Math.Option.{Option, none, some}
use Rattle.std.proofs.lemmas.Bool.{lt-leb}
use Rattle.grammar.specs.Limits.{MAX_TEXT, BOOK_WORDS, MAX_ROWS, PAGE_WORDS, MAX_TOKENS}
use Rattle.grammar.specs.Data.Book.{Book}
use Rattle.grammar.specs.Evaluator.Tree.{Token}
use Rattle.grammar.specs.Engine.{Reading, read_book, Evaluation, turned_back, stored_book, tokens_of, evaluate_tokens, evaluate_book, evaluate_words}
use Rattle.grammar.specs.Demands.{Evaluates, no_book, wrong_rows, wrong_tokens, wrong_kinds, runs}
use Rattle.grammar.proofs.DemandsProof.{evaluating-right, figures-right}
use Rattle.grammar.specs.Cases.Cases.{after_reading, calls}
use Rattle.console.specs.Desk.{answer, evaluated}
use Rattle.console.specs.Kept.{KEPT_NUMBERS}

-- Rows

module _ (words tokens : List ℕ) where
  rows_fit : {e : Evaluation} → Evaluates words tokens PAGE_WORDS e → evaluate_words words tokens PAGE_WORDS ≡ e → e.number ≡ 0 → e.count ≤ MAX_ROWS
  unfolding turned_back
  rows_fit (no_book h) q z = absurd (omega arith)
  rows_fit (wrong_rows s h) q z = absurd (omega arith)
  rows_fit (wrong_tokens s l h) q z = absurd (omega arith)
  rows_fit (wrong_kinds s l ks h) q z = absurd (omega arith)
  rows_fit (runs s l ks h) q z =
      let f = rw (ks.its_numbers, q) at (figures-right words s ks.list ks.few h) in
      let tree = f.exactly.0 z in
      omega (arith, f.row_count z tree.0 tree.1, tree.2.few_nodes)

  evaluated-rows : (evaluate_words words tokens PAGE_WORDS).number ≡ 0 → (evaluate_words words tokens PAGE_WORDS).count ≤ MAX_ROWS
  evaluated-rows z = rows_fit (evaluating-right words tokens PAGE_WORDS) refl z

after-rows : (r : Reading) (tokens : List ℕ) → (after_reading r tokens).number ≡ 0 → (after_reading r tokens).count ≤ MAX_ROWS
unfolding after_reading turned_back
after-rows r tokens = go r.number refl
  where
    go : (n : ℕ) → r.number ≡ n → (after_reading r tokens).number ≡ 0 → (after_reading r tokens).count ≤ MAX_ROWS
    go zero q = rw (q, after_reading) (evaluated-rows r.words tokens)
    go (suc n) q = rw (q, after_reading) (λ z. omega arith)

pub few-rows : (text tokens : List ℕ) → (calls text tokens).number ≡ 0 → (calls text tokens).count ≤ MAX_ROWS
unfolding calls
few-rows text tokens z = after-rows (read_book text BOOK_WORDS) tokens z

-- Tokens

-- each token has two numbers
token-pairs : (ns : List ℕ) (ks : List Token) → tokens_of ns ≡ some ks → length ns ≡ 2 * length ks
unfolding tokens_of
token-pairs [] ks e = let q : ks ≡ [] = cc in rw q
token-pairs (k ∷ []) ks e = absurd (let z : ◌≡◌ {A = ℕ} 0 1 = cc in omega arith)
token-pairs (k ∷ v ∷ ns) ks e = go (tokens_of ns) refl (token-pairs ns)
  where
    go : (o : Option (List Token)) → tokens_of ns ≡ o → ((ls : List Token) → tokens_of ns ≡ some ls → length ns ≡ 2 * length ls)
        → suc (suc (length ns)) ≡ 2 * length ks
    go none q ih = absurd (let w : none ≡ some ks = rw (q, tokens_of) at e in let z : ◌≡◌ {A = ℕ} 0 1 = cc in omega arith)
    go (some ls) q ih =
        let w : some (record { kind = k; value = v } ∷ ls) ≡ some ks = rw (q, tokens_of) at e in
        let same : ks ≡ record { kind = k; value = v } ∷ ls = cc in
        rw same (omega (arith, ih ls q))

-- "more than 255: 13"
many-tokens : (b : Book) (ns : List ℕ) → 2 * MAX_TOKENS < length ns → evaluate_book b ns PAGE_WORDS ≡ turned_back 13 PAGE_WORDS
unfolding evaluate_book evaluate_tokens
many-tokens b ns h = go (tokens_of ns) refl
  where
    go : (o : Option (List Token)) → tokens_of ns ≡ o → evaluate_book b ns PAGE_WORDS ≡ turned_back 13 PAGE_WORDS
    go none q = rw (q, evaluate_book)
    go (some ks) q = rw (q, evaluate_book) (rw (lt-leb (length ks) MAX_TOKENS (omega (arith, token-pairs ns ks q)), evaluate_tokens))

kept-tokens : (words ns : List ℕ) → evaluate_words words (take KEPT_NUMBERS ns) PAGE_WORDS ≡ evaluate_words words ns PAGE_WORDS
unfolding evaluate_words
kept-tokens words ns = go (ltb KEPT_NUMBERS (length ns)) refl (stored_book words) refl
  where
    go : (t : Bool) → ltb KEPT_NUMBERS (length ns) ≡ t → (o : Option Book) → stored_book words ≡ o
        → evaluate_words words (take KEPT_NUMBERS ns) PAGE_WORDS ≡ evaluate_words words ns PAGE_WORDS
    go false q o e = rw (take_all KEPT_NUMBERS ns (ltb-false _ _ q))
    go true q none e = rw (e, evaluate_words)
    go true q (some b) e =
        let l = ltb-true KEPT_NUMBERS (length ns) q in
        rw (e, evaluate_words)
        (many-tokens b (take KEPT_NUMBERS ns) (omega (arith, length-take KEPT_NUMBERS ns)) ∙ sym (many-tokens b ns (omega arith)))

after_kept : (r : Reading) (ns : List ℕ) → after_reading r (take KEPT_NUMBERS ns) ≡ after_reading r ns
unfolding after_reading
after_kept r ns = go r.number refl
  where
    go : (n : ℕ) → r.number ≡ n → after_reading r (take KEPT_NUMBERS ns) ≡ after_reading r ns
    go zero q = rw (q, after_reading) (kept-tokens r.words ns)
    go (suc n) q = rw (q, after_reading)

pub calls-kept : (text ns : List ℕ) → calls text (take KEPT_NUMBERS ns) ≡ calls text ns
unfolding calls
calls-kept text ns = after_kept (read_book text BOOK_WORDS) ns

-- The answer to a text that is not too long and tokens that are spelled right

pub answer-evaluated : (text ns : List ℕ) → length text ≤ MAX_TEXT → answer text (some ns) ≡ evaluated (calls text ns)
unfolding answer
answer-evaluated text ns h = rw (le-leb (length text) MAX_TEXT h, answer)
