-- The rules of a book in an array: the words are small, and what they say of the symbols behind a dot; and the words of its closures.
-- Assumes nothing.
use Rattle.std.specs.Prelude.{ℕ, suc, ◌+◌, ◌*◌, ◌<◌, ◌≤◌, ◌≡◌, List, [], ◌∷◌, length, get_or, drop}
use Rattle.std.proofs.Common.{arith, ap, ◌∙◌, drop_of_length-le, drop-cons}
use Rattle.grammar.specs.Limits.{MAX_RULES, MAX_RIGHT}
use Rattle.grammar.specs.Data.Symbol.{Symbol, terminal, nonterminal, left_of, right_of, after}
use Rattle.grammar.specs.Data.Book.{Book}
use Rattle.grammar.specs.Conditions.Meaning.{WithinLimits, Declared, RightSymbol, GoSymbol}
use Rattle.grammar.specs.Conditions.MeaningLaws.{right-length, right-declared, left-declared}
use Rattle.grammar.specs.Automaton.Small.{number_of}
use Rattle.grammar.specs.Automaton.Fixpoint.{set_at}
use Rattle.grammar.specs.Automaton.FirstSets.{Sets}
use Rattle.grammar.specs.Automaton.ClosureSets.{closure_sets}
use Rattle.book.specs.Layout.{symbol_code}
use Rattle.book.specs.Held.{RulesIn}
use Rattle.items.specs.Arrays.{ClosuresIn}
use Rattle.items.specs.SymbolCodes.{code-low}

-- the rules of a book that keeps the limits and declares its names
pub record GrammarIn (b : Book) (rules : List ℕ) : Type 0 where
  pub limits : WithinLimits b
  pub declared : Declared b
  pub rules_in : RulesIn b.rules rules

-- the words of rule P
pub record RuleLow (rules : List ℕ) (P : ℕ) : Type 0 where
  pub there : 10 * P + 10 ≤ length rules
  pub below : P < MAX_RULES
  pub left_low : get_or rules (10 * P) 0 < 32
  pub size_low : get_or rules (10 * P + 1) 0 ≤ MAX_RIGHT
  pub symbol_low : (D : ℕ) → D < get_or rules (10 * P + 1) 0 → get_or rules (10 * P + 2 + D) 0 < 64

-- the symbol behind the dot of (P, D), and its word
pub record Next (b : Book) (rules : List ℕ) (P D : ℕ) : Type 0 where
  pub symbol : Symbol
  pub rest : List Symbol
  pub behind : after b.rules P D ≡ symbol ∷ rest
  pub declared_symbol : RightSymbol b symbol
  pub word_is : get_or rules (10 * P + 2 + D) 0 ≡ symbol_code symbol

pub right-symbol-low : {b : Book} → WithinLimits b → (X : Symbol) → RightSymbol b X → number_of X < 32
right-symbol-low w (terminal t) h = omega (arith, h.high, w.terminals_limit.high)
right-symbol-low w (nonterminal A) h = omega (arith, h.high, w.nonterminals_limit.high)

pub right-go : (b : Book) (X : Symbol) → RightSymbol b X → GoSymbol b X
right-go b (terminal t) h = h
right-go b (nonterminal A) h = h.high

module _ {b : Book} {rules : List ℕ} (h : GrammarIn b rules) where
  pub after_none : (P D : ℕ) → P < length b.rules → get_or rules (10 * P + 1) 0 ≤ D → after b.rules P D ≡ []
  after_none P D p l = let m : length (right_of b.rules P) ≤ D = omega (arith, h.rules_in.size_is P p) in drop_of_length-le (right_of b.rules P) m

  pub after-some : (P D : ℕ) → P < length b.rules → D < get_or rules (10 * P + 1) 0 → Next b rules P D
  after-some P D p l =
      let m : D < length (right_of b.rules P) = omega (arith, h.rules_in.size_is P p) in
      let e : after b.rules P D ≡ get_or (right_of b.rules P) D (terminal 0) ∷ drop (suc D) (right_of b.rules P) =
      drop-cons (right_of b.rules P) D (terminal 0) m in
      record {
        symbol = get_or (right_of b.rules P) D (terminal 0);
        rest = drop (suc D) (right_of b.rules P);
        behind = e;
        declared_symbol = right-declared h.declared P D e;
        word_is = h.rules_in.symbol_is P D p m (omega (arith, right-length h.limits P));
      }

  pub rule_low : (P : ℕ) → P < length b.rules → RuleLow rules P
  rule_low P p = record {
    there = omega (arith, h.rules_in.long);
    below = omega (arith, h.rules_in.fits);
    left_low = omega (arith, h.rules_in.left_is P p, left-declared h.declared P p, h.limits.nonterminals_limit.high);
    size_low = omega (arith, h.rules_in.size_is P p, right-length h.limits P);
    symbol_low = λ D l.
        let n : Next b rules P D = after-some P D p l in
        rw n.word_is (code-low n.symbol (right-symbol-low h.limits n.symbol n.declared_symbol));
  }

  -- the set of a rule's left side in a closure
  module _ {F : Sets} {closures : List ℕ} (k : ClosuresIn b F closures) {S P : ℕ} (s : S < b.states) (p : P < length b.rules) {left : ℕ}
      (left_is : left ≡ get_or rules (10 * P) 0) where
    pub set-place : 32 * S + left < length closures
    set-place = omega (arith, left_is, (rule_low P p).left_low, h.limits.states_limit.high, k.long)

    pub set_word : get_or closures (32 * S + left) 0 ≡ set_at (closure_sets b F S) (left_of b.rules P)
    set_word =
        let e : left ≡ left_of b.rules P = left_is ∙ h.rules_in.left_is P p in
        k.set_is S left s (omega (arith, left_is, (rule_low P p).left_low)) ∙ ap (set_at (closure_sets b F S)) e
