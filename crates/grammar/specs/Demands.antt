-- The three demands, as promises about the two calls (Engine.antt): `read_book` from a text and the number of lent words, `evaluate_words` from stored
-- words, token numbers and the number of lent row words. Stated here, proved in proofs/DemandsProof.antt. What to believe: books as data and their text
-- (Data/Book, Format/Print, Format/Ordered), the conditions (Conditions/Meaning, Automaton/States, Formulas/Formula, gathered in Refusal), trees and
-- their values (Evaluator/Tree, Decorated, Rows), the stack evaluator (Evaluator/Machine), the filling of words (Format/Packing). Assumes nothing.
use Rattle.std.specs.Prelude.{ℕ, ◌≤◌, ◌≡◌, ◌≢◌, ◌↔◌, List, [], ◌∷◌, length, replicate}
use Rattle.grammar.specs.Limits.{MAX_TEXT, BOOK_WORDS, PAGE_WORDS, MAX_TOKENS}
use Rattle.grammar.specs.Data.Book.{Book}
use Rattle.grammar.specs.Evaluator.Tree.{Token, Tree, size, TokensOf}
use Rattle.grammar.specs.Evaluator.Decorated.{Decorated}
use Rattle.grammar.specs.Evaluator.Rows.{rows, page}
use Rattle.grammar.specs.Format.Packing.{pack}
use Rattle.grammar.specs.Refusal.{Taken, Verdict, refusal}
use Rattle.grammar.specs.Evaluator.Demand.{SmallTree, TreeOf, Valued}
use Rattle.grammar.specs.Evaluator.Machine.{evaluate}
use Rattle.grammar.specs.Evaluator.Premises.{Premises}
use Rattle.grammar.specs.Engine.{Reading, read_book, tables_of, Evaluation, turned_back, evaluation_of, evaluate_words}

-- Demand 2: a text is taken exactly if it meets all conditions, and refused with n of 2 to 10 exactly if condition n is broken and none before it

abbrev pub Taken-right : Type 0
Taken-right = (text : List ℕ) → (refusal text ≡ 0) ↔ Taken text

abbrev pub Refusal-right : Type 0
Refusal-right = (text : List ℕ) (n : ℕ) → (refusal text ≡ n) ↔ Verdict text n

-- Demand 1 of reading: refusal 1 by the lengths alone, else what 01 answers to the text (Verdict: taken exactly if all conditions hold,
-- else the first that is broken); zeros on every refusal, else the book's filling

pub record Lengths (text : List ℕ) (lent : ℕ) : Type 0 where
  pub short_text : length text ≤ MAX_TEXT
  pub all_words : lent ≡ BOOK_WORDS

pub data Reads (text : List ℕ) (lent : ℕ) : Reading → Type 0 where
  wrong_lengths : (Lengths text lent → ⊥) → Reads text lent (record { number = 1; words = replicate lent 0 })
  takes : Lengths text lent → Verdict text 0 → Reads text lent (record { number = 0; words = pack lent text })
  refuses : {n : ℕ} → Lengths text lent → n ≢ 0 → Verdict text n → Reads text lent (record { number = n; words = replicate lent 0 })

abbrev pub Reading-right : Type 0
Reading-right = (text : List ℕ) (lent : ℕ) → Reads text lent (read_book text lent)

-- Demand 1 of evaluating: 11 exactly if no taken book fills these words, then 12, 13, 14 in this order, with zeros

-- the words are the filling of a taken text
pub record Stored (words : List ℕ) : Type 0 where
  pub text : List ℕ
  pub its_book : Taken text
  pub short_text : length text ≤ MAX_TEXT
  pub filling : words ≡ pack BOOK_WORDS text

abbrev pub book_of : {words : List ℕ} → Stored words → Book
book_of s = s.its_book.book

-- (kind, value) pairs
unfoldable pub numbers_of : List Token → List ℕ
numbers_of [] = []
numbers_of (k ∷ ks) = k.kind ∷ k.value ∷ numbers_of ks

pub record TokenList (tokens : List ℕ) : Type 0 where
  pub list : List Token
  pub its_numbers : numbers_of list ≡ tokens
  pub few : length list ≤ MAX_TOKENS

pub data Evaluates (words tokens : List ℕ) (lent : ℕ) : Evaluation → Type 0 where
  no_book : (Stored words → ⊥) → Evaluates words tokens lent (turned_back 11 lent)
  wrong_rows : Stored words → lent ≢ PAGE_WORDS → Evaluates words tokens lent (turned_back 12 lent)
  wrong_tokens : Stored words → lent ≡ PAGE_WORDS → (TokenList tokens → ⊥) → Evaluates words tokens lent (turned_back 13 lent)
  wrong_kinds : (s : Stored words) → lent ≡ PAGE_WORDS → (ks : TokenList tokens) → (TokensOf (book_of s) ks.list → ⊥)
      → Evaluates words tokens lent (turned_back 14 lent)
  -- the stack evaluator's answer (Machine.antt): 0 and rows, or 15, 16 or 17 and zeros
  runs : (s : Stored words) → lent ≡ PAGE_WORDS → (ks : TokenList tokens) → TokensOf (book_of s) ks.list
      → Evaluates words tokens lent (evaluation_of (evaluate (book_of s) (tables_of (book_of s)) ks.list) lent)

abbrev pub Evaluating-right : Type 0
Evaluating-right = (words tokens : List ℕ) (lent : ℕ) → Evaluates words tokens lent (evaluate_words words tokens lent)

-- the evaluator's tables are what the items and chains of the book's states say (Premises.antt: its actions are those of the items, its go lines the
-- book's, its formulas those of all chains and no others), "as their stack evaluator, written out in 01"
abbrev pub Tables-right : Type 0
Tables-right = (words : List ℕ) (s : Stored words) → Premises (book_of s) (tables_of (book_of s))

-- Demand 3: of every taken book and every list of at most 255 of its tokens, evaluated into 5,120 row words

pub record Figures (b : Book) (ks : List Token) (e : Evaluation) : Type 0 where
  -- "accepted exactly when it is the leaves of some parse tree that has at most 512 nodes and a stack need of at most 128"
  pub exactly : (e.number ≡ 0) ↔ ((t : Tree) × TreeOf b ks t × SmallTree t)
  -- "Then no other tree of any size has those leaves"
  pub one_tree : e.number ≡ 0 → (t u : Tree) → TreeOf b ks t → TreeOf b ks u → t ≡ u
  -- "The row count is the number of that tree's nodes"
  pub row_count : e.number ≡ 0 → (t : Tree) → TreeOf b ks t → e.count ≡ size t
  -- the rows are those nodes in postorder with the values that the rules give on the finished tree, and zeros after them (page)
  pub row_words : e.number ≡ 0 → (t : Tree) → TreeOf b ks t → (d : Decorated) → Valued b t d → e.rows ≡ page (rows b d 0)
  -- every tree has such values, and only these
  pub has_values : (t : Tree) → (d : Decorated) × Valued b t d × ((d' : Decorated) → Valued b t d' → d' ≡ d)
  -- "refused as no message (15) only if no tree of any size has those leaves"
  pub no_message : e.number ≡ 15 → (t : Tree) → TreeOf b ks t → ⊥

abbrev pub Figures-right : Type 0
Figures-right = (words : List ℕ) (s : Stored words) (ks : List Token) → length ks ≤ MAX_TOKENS → TokensOf (book_of s) ks
    → Figures (book_of s) ks (evaluate_words words (numbers_of ks) PAGE_WORDS)

-- opens every definition of this module
unfoldable pub opens : Unit {0}
unfolding numbers_of
opens = tt
