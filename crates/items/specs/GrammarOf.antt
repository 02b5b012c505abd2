-- The grammar that an array of rules holds, read back from its words, and what functions over the array ask of the words.
-- A grammar with symbols numbered below 32 and right sides of at most eight symbols is read back as it was. Assumes nothing.
use Rattle.std.specs.Prelude.{ℕ, zero, suc, ◌+◌, ◌*◌, ◌-◌, ◌≤◌, ◌<◌, ◌≡◌, refl, Bool, true, false, ltb, length, get_or, drop}
use Rattle.std.proofs.Math.Path.{ap}
use Rattle.std.proofs.Common.{◌∙◌, arith, add-one, drop_of_length-le, drop-cons, lt-ltb, le-ltb, ltb-true, ltb-false}
use mathlib.Core.List.{List, [], ◌∷◌}
use Rattle.std.proofs.Math.Seq.{ext_get_or}
use Rattle.grammar.specs.Limits.{MAX_RULES, MAX_RIGHT}
use Rattle.grammar.specs.Data.Symbol.{Symbol, terminal, nonterminal, Rule, rule_at, left_of, right_of}
use Rattle.grammar.specs.Data.Book.{Book}
use Rattle.grammar.specs.Conditions.Meaning.{WithinLimits}
use Rattle.grammar.specs.Conditions.MeaningLaws.{right-length}
use Rattle.grammar.specs.Automaton.Small.{number_of, Low, low-at, Small, SmallBook}
use Rattle.book.specs.Layout.{code_of, symbol_code}
use Rattle.book.specs.Held.{RulesIn}
use Rattle.items.specs.SymbolCodes.{code-low}

-- f 0, f 1, .., `count` of them
unfoldable pub listed : {A : Type 0} → (ℕ → A) → ℕ → List A
listed f zero = []
listed f (suc count) = f 0 ∷ listed (λ i. f (suc i)) count

-- the symbol of a word
unfoldable pub symbol_of : ℕ → Symbol
symbol_of word = elim (ltb word 32) [ true ↦ terminal word | false ↦ nonterminal (word - 32) ]

-- the words of rule P: left side, number of right symbols, right symbols

abbrev pub left_word : List ℕ → ℕ → ℕ
left_word words P = get_or words (10 * P) 0

abbrev pub size_word : List ℕ → ℕ → ℕ
size_word words P = get_or words (10 * P + 1) 0

abbrev pub symbol_word : List ℕ → ℕ → ℕ → ℕ
symbol_word words P D = get_or words (10 * P + 2 + D) 0

-- rule P and its right side
unfoldable pub right_in : List ℕ → ℕ → List Symbol
right_in words P = listed (λ D. symbol_of (symbol_word words P D)) (size_word words P)

unfoldable pub rule_in : List ℕ → ℕ → Rule
rule_in words P = record { left = left_word words P; right = right_in words P }

-- the first `count` rules
unfoldable pub grammar_of : List ℕ → ℕ → List Rule
grammar_of words count = listed (rule_in words) count

-- what is asked of the words of rule P
pub record RuleFits (words : List ℕ) (P : ℕ) : Type 0 where
  pub there : 10 * P + 10 ≤ length words
  pub below : P < MAX_RULES
  pub left_low : left_word words P < 32
  pub size_low : size_word words P ≤ MAX_RIGHT
  pub symbol_low : (D : ℕ) → D < size_word words P → symbol_word words P D < 64

-- and of all rules
pub record GrammarFits (words : List ℕ) (count : ℕ) : Type 0 where
  pub few : count ≤ MAX_RULES
  pub rule_fits : (P : ℕ) → P < count → RuleFits words P

-- a grammar in the array, with symbols numbered below 32 and right sides of at most eight symbols
pub record GrammarHeld (G : List Rule) (words : List ℕ) (count : ℕ) : Type 0 where
  pub held : RulesIn G words
  pub counted : count ≡ length G
  pub small : Small G
  pub short : (P : ℕ) → P < length G → length (right_of G P) ≤ MAX_RIGHT

-- so are the rules of a book that keeps the limits
pub book-grammar : {b : Book} {words : List ℕ} {count : ℕ} → WithinLimits b → SmallBook b → RulesIn b.rules words → count ≡ length b.rules
    → GrammarHeld b.rules words count
book-grammar w S R e = record { held = R; counted = e; small = S.small_rules; short = λ P h. right-length w P }

-- ---- lists by place

length-listed : {A : Type 0} (f : ℕ → A) (count : ℕ) → length (listed f count) ≡ count
unfolding listed
length-listed f zero = refl
length-listed f (suc count) = ap suc (length-listed (λ i. f (suc i)) count)

get_or-listed : {A : Type 0} (f : ℕ → A) (count i : ℕ) (d : A) → i < count → get_or (listed f count) i d ≡ f i
unfolding listed
get_or-listed f zero i d h = absurd (omega arith)
get_or-listed f (suc count) zero d h = refl
get_or-listed f (suc count) (suc i) d h = get_or-listed (λ i. f (suc i)) count i d (omega arith)

-- ---- a right side after a dot

module _ (words : List ℕ) (P : ℕ) where
  pub right-size : length (right_in words P) ≡ size_word words P
  unfolding right_in
  right-size = length-listed _ (size_word words P)

  right-at : (D : ℕ) → D < size_word words P → get_or (right_in words P) D (terminal 0) ≡ symbol_of (symbol_word words P D)
  unfolding right_in
  right-at D h = get_or-listed (λ D. symbol_of (symbol_word words P D)) (size_word words P) D (terminal 0) h

  -- a symbol, and the rest behind it
  pub rest_more : (D : ℕ) → D < size_word words P → drop D (right_in words P) ≡ symbol_of (symbol_word words P D) ∷ drop (D + 1) (right_in words P)
  rest_more D h =
      rw (add-one D) (drop-cons (right_in words P) D (terminal 0) (omega (arith, right-size))
      ∙ ap (λ (X : Symbol). X ∷ drop (suc D) (right_in words P)) (right-at D h))

  pub rest-before : (at : ℕ) → 0 < at → at ≤ size_word words P
      → drop (at - 1) (right_in words P) ≡ symbol_of (symbol_word words P (at - 1)) ∷ drop at (right_in words P)
  rest-before at l h =
      let e : at - 1 + 1 ≡ at = omega arith in
      rest_more (at - 1) (omega arith) ∙ ap (λ (n : ℕ). symbol_of (symbol_word words P (at - 1)) ∷ drop n (right_in words P)) e

  -- no symbol
  pub rest-none : (D : ℕ) → size_word words P ≤ D → drop D (right_in words P) ≡ []
  rest-none D h = let l : length (right_in words P) ≤ D = omega (arith, right-size) in drop_of_length-le (right_in words P) l

-- ---- the grammar's rules

module _ (words : List ℕ) (count : ℕ) where
  pub grammar-size : length (grammar_of words count) ≡ count
  unfolding grammar_of
  grammar-size = length-listed (rule_in words) count

  pub rule_is : (P : ℕ) → P < count → rule_at (grammar_of words count) P ≡ rule_in words P
  unfolding grammar_of rule_at
  rule_is P h = get_or-listed (rule_in words) count P _ h

  pub left_is : (P : ℕ) → P < count → left_of (grammar_of words count) P ≡ left_word words P
  unfolding rule_in
  left_is P h = ap (λ (r : Rule). r.left) (rule_is P h)

  pub right_is : (P : ℕ) → P < count → right_of (grammar_of words count) P ≡ right_in words P
  unfolding rule_in
  right_is P h = ap (λ (r : Rule). r.right) (rule_is P h)

-- ---- its symbols

pub terminal-of : (word : ℕ) → word < 32 → symbol_of word ≡ terminal word
unfolding symbol_of
terminal-of word h = rw (lt-ltb word 32 h, symbol_of)

pub nonterminal-of : (word : ℕ) → 32 ≤ word → symbol_of word ≡ nonterminal (word - 32)
unfolding symbol_of
nonterminal-of word h = rw (le-ltb word 32 h, symbol_of)

symbol_low : (word : ℕ) → word < 64 → number_of (symbol_of word) < 32
symbol_low word h = go (ltb word 32) refl
  where
    go : (t : Bool) → ltb word 32 ≡ t → number_of (symbol_of word) < 32
    go true e = let l : word < 32 = ltb-true word 32 e in rw (terminal-of word l) l
    go false e = rw (nonterminal-of word (ltb-false word 32 e)) (omega (arith, ltb-false word 32 e))

low-listed : (f : ℕ → Symbol) (count : ℕ) → ((i : ℕ) → i < count → number_of (f i) < 32) → Low (listed f count)
unfolding listed
low-listed f zero h = tt
low-listed f (suc count) h = (h 0 (omega arith), low-listed (λ i. f (suc i)) count (λ i l. h (suc i) (omega arith)))

pub right_low : (words : List ℕ) (P : ℕ) → RuleFits words P → Low (right_in words P)
unfolding right_in
right_low words P R = low-listed _ (size_word words P) (λ D h. symbol_low (symbol_word words P D) (R.symbol_low D h))

pub grammar-small : (words : List ℕ) (count : ℕ) → GrammarFits words count → Small (grammar_of words count)
grammar-small words count F = record {
  left_low = λ P h. let l : P < count = rw (grammar-size words count) at h in rw (left_is words count P l) (F.rule_fits P l).left_low;
  right_low = λ P h. let l : P < count = rw (grammar-size words count) at h in rw (right_is words count P l) (right_low words P (F.rule_fits P l));
}

-- ---- a grammar that the array holds is read back

symbol-back : (X : Symbol) → number_of X < 32 → symbol_of (symbol_code X) ≡ X
unfolding symbol_code code_of
symbol-back (terminal K) h = rw (lt-ltb K 32 h, code_of) (let e : 0 + K ≡ K = omega arith in rw e (terminal-of K h))
symbol-back (nonterminal K) h =
    rw (lt-ltb K 32 h, code_of) (let e : 32 + K - 32 ≡ K = omega arith in nonterminal-of (32 + K) (omega arith) ∙ ap nonterminal e)

same_rule : (r s : Rule) → r.left ≡ s.left → r.right ≡ s.right → r ≡ s
same_rule r s e f =
    ap (λ (A : ℕ). record { left = A; right = r.right }) e ∙ ap (λ (β : List Symbol). record { left = s.left; right = β }) f

module _ {G : List Rule} {words : List ℕ} {count : ℕ} (H : GrammarHeld G words count) where
  word_at : (P D : ℕ) → P < length G → D < length (right_of G P) → symbol_word words P D ≡ symbol_code (get_or (right_of G P) D (terminal 0))
  word_at P D h l = H.held.symbol_is P D h l (omega (arith, H.short P h))

  number_at : (P D : ℕ) → P < length G → number_of (get_or (right_of G P) D (terminal 0)) < 32
  number_at P D h = low-at (right_of G P) D (H.small.right_low P h)

  symbol-at : (P D : ℕ) → P < length G → D < length (right_of G P) → symbol_of (symbol_word words P D) ≡ get_or (right_of G P) D (terminal 0)
  symbol-at P D h l =
      ap symbol_of (word_at P D h l) ∙ symbol-back (get_or (right_of G P) D (terminal 0)) (number_at P D h)

  right-back : (P : ℕ) → P < length G → right_in words P ≡ right_of G P
  right-back P h =
      ext_get_or (terminal 0) (right_in words P) (right_of G P) (right-size words P ∙ H.held.size_is P h)
      (λ D l. let m : D < size_word words P = rw (right-size words P) at l in
      right-at words P D m ∙ symbol-at P D h (rw (H.held.size_is P h) at m))

  rule-back : (P : ℕ) → P < length G → rule_in words P ≡ rule_at G P
  unfolding rule_in
  rule-back P h = same_rule _ _ (H.held.left_is P h) (right-back P h)

  pub grammar-back : grammar_of words count ≡ G
  unfolding rule_at
  grammar-back =
      ext_get_or (record { left = 0; right = [] }) (grammar_of words count) G (grammar-size words count ∙ H.counted)
      (λ P l. let h : P < count = rw (grammar-size words count) at l in rule_is words count P h ∙ rule-back P (rw H.counted at h))

  pub grammar-fits : GrammarFits words count
  grammar-fits = record { few = omega (arith, H.counted, H.held.fits); rule_fits = λ P l. fits P (rw H.counted at l) }
    where
      fits : (P : ℕ) → P < length G → RuleFits words P
      fits P h = record {
        there = omega (arith, H.held.long);
        below = omega (arith, H.held.fits);
        left_low = rw (H.held.left_is P h) (H.small.left_low P h);
        size_low = rw (H.held.size_is P h) (H.short P h);
        symbol_low = λ D l. rw (word_at P D h (rw (H.held.size_is P h) at l)) (code-low (get_or (right_of G P) D (terminal 0)) (number_at P D h));
      }

-- opens every definition of this module
unfoldable pub opens : Unit {0}
unfolding listed symbol_of right_in rule_in grammar_of
opens = tt
