-- The words of symbols: what code asks of them, and that it is what the book asks of the symbols. A symbol that no book declares has a word of its own.
-- Assumes nothing.
use Rattle.std.specs.Prelude.{ℕ, ◌+◌, ◌-◌, ◌≤◌, ◌<◌, ◌≡◌, refl, Bool, true, ltb}
use Rattle.std.proofs.Math.Path.{sym, ap₂}
use Rattle.std.proofs.Common.{◌∙◌}
use Rattle.std.proofs.Math.Bool.{false}
use native.Mathlib.Omega.{arith}
use Rattle.std.proofs.Math.Dec.{leb}
use borrow.Author.Tests.{ltb-true, ltb-false, lt-ltb, le-ltb, lt-leb, le-leb}
use Rattle.grammar.specs.Conditions.Decides.{one_to}
use Rattle.grammar.specs.Data.Symbol.{Symbol, terminal, nonterminal}
use Rattle.grammar.specs.Data.Book.{Book as Lines}
use Rattle.grammar.specs.Conditions.Meaning.{WithinLimits, IsTerminal, IsNonterminal}
use Rattle.grammar.specs.Conditions.Tests.{right_symbol, go_symbol}
use Rattle.book.specs.declared.Book.{Book}
use Rattle.std.proofs.Math.Bool.{and-false}
use Rattle.book.specs.Layout.{code_of, symbol_code}
use Rattle.conditions.specs.Asked.{Counted}
use Rattle.conditions.specs.DeclaredTests.{right_code, go_code}

one-past : (n k : ℕ) → n < k → one_to n k ≡ false
unfolding one_to
one-past n k h = rw (lt-leb k n h) (and-false (leb 1 k))

-- a property of a symbol's word, by cases
by_code : (P : ℕ → Type 0) (base K : ℕ) → (K < 32 → P (base + K)) → (32 ≤ K → P 64) → P (code_of base K)
unfolding code_of
by_code P base K f g = go (ltb K 32) refl
  where
    go : (t : Bool) → ltb K 32 ≡ t → P (elim t [ true ↦ base + K | false ↦ 64 ])
    go true e = f (ltb-true K 32 e)
    go false e = g (ltb-false K 32 e)

code-low : (base K : ℕ) → K < 32 → code_of base K ≡ base + K
unfolding code_of
code-low base K h = rw (lt-ltb K 32 h, code_of)

-- the words of declared symbols
module _ {b : Lines} (w : WithinLimits b) where
  pub terminal-code : {t : ℕ} → IsTerminal b t → symbol_code (terminal t) ≡ t
  unfolding symbol_code
  terminal-code {t} d = code-low 0 t (omega (arith, w.terminals_limit.high)) ∙ omega arith

  pub nonterminal-code : {A : ℕ} → IsNonterminal b A → symbol_code (nonterminal A) ≡ 32 + A
  unfolding symbol_code
  nonterminal-code {A} d = code-low 32 A (omega (arith, w.nonterminals_limit.high))

module _ (numbers : Book) (code : ℕ) where
  pub right_low : code < 32 → right_code numbers code ≡ one_to numbers.terminals code
  unfolding right_code
  right_low h = rw (lt-ltb code 32 h, right_code)

  pub right-high : 32 ≤ code → right_code numbers code ≡ one_to numbers.nonterminals (code - 32)
  unfolding right_code
  right-high h = rw (le-ltb code 32 h, right_code)

  go-low : code < 32 → go_code numbers code ≡ one_to numbers.terminals code
  unfolding go_code
  go-low h = rw (lt-ltb code 32 h, go_code)

  go-high : 32 ≤ code → go_code numbers code ≡ leb (code - 32) numbers.nonterminals
  unfolding go_code
  go-high h = rw (le-ltb code 32 h, go_code)

  pub go-first : code ≡ 32 → true ≡ go_code numbers code
  go-first e = sym (go-high (omega arith) ∙ le-leb (code - 32) numbers.nonterminals (omega arith))

  pub go-other : (code ≡ 32 → ⊥) → right_code numbers code ≡ go_code numbers code
  unfolding one_to
  go-other n = go (ltb code 32) refl
    where
      go : (t : Bool) → ltb code 32 ≡ t → right_code numbers code ≡ go_code numbers code
      go true e = let h = ltb-true code 32 e in right_low h ∙ sym (go-low h)
      go false e = let h = ltb-false code 32 e in right-high h ∙ (rw (le-leb 1 (code - 32) (omega arith)) (sym (go-high h)))

module _ {numbers : Book} {b : Lines} (c : Counted numbers b) (w : WithinLimits b) where
  low : (K code : ℕ) → code ≡ K → one_to numbers.terminals code ≡ one_to b.terminals K
  low K code e = ap₂ one_to c.terminals_are e

  high : (K code : ℕ) → code ≡ K → one_to numbers.nonterminals code ≡ one_to b.nonterminals K
  high K code e = ap₂ one_to c.nonterminals_are e

  -- a word of a symbol that no book declares
  none : one_to numbers.nonterminals 32 ≡ false
  none = one-past numbers.nonterminals 32 (omega (arith, w.nonterminals_limit.high, c.nonterminals_are))

  pub right-code : (X : Symbol) → right_code numbers (symbol_code X) ≡ right_symbol b X
  unfolding symbol_code right_symbol
  right-code (terminal K) =
      by_code (λ code. right_code numbers code ≡ one_to b.terminals K) 0 K
      (λ h. right_low numbers (0 + K) (omega arith) ∙ low K (0 + K) (omega arith))
      (λ h. right-high numbers 64 (omega arith) ∙ (none ∙ sym (one-past b.terminals K (omega (arith, w.terminals_limit.high)))))
  right-code (nonterminal K) =
      by_code (λ code. right_code numbers code ≡ one_to b.nonterminals K) 32 K
      (λ h. right-high numbers (32 + K) (omega arith) ∙ high K (32 + K - 32) (omega arith))
      (λ h. right-high numbers 64 (omega arith) ∙ (none ∙ sym (one-past b.nonterminals K (omega (arith, w.nonterminals_limit.high)))))

  pub go-code : (X : Symbol) → go_code numbers (symbol_code X) ≡ go_symbol b X
  unfolding symbol_code go_symbol
  go-code (terminal K) =
      by_code (λ code. go_code numbers code ≡ one_to b.terminals K) 0 K
      (λ h. go-low numbers (0 + K) (omega arith) ∙ low K (0 + K) (omega arith))
      (λ h. go-high numbers 64 (omega arith) ∙ (past 32 (omega arith) ∙ sym (one-past b.terminals K (omega (arith, w.terminals_limit.high)))))
    where
      past : (k : ℕ) → 32 ≤ k → leb k numbers.nonterminals ≡ false
      past k l = lt-leb k numbers.nonterminals (omega (arith, w.nonterminals_limit.high, c.nonterminals_are))
  go-code (nonterminal K) =
      by_code (λ code. go_code numbers code ≡ leb K b.nonterminals) 32 K
      (λ h. go-high numbers (32 + K) (omega arith) ∙ ap₂ leb (let e : 32 + K - 32 ≡ K = omega arith in e) c.nonterminals_are)
      (λ h. go-high numbers 64 (omega arith) ∙ (lt-leb 32 numbers.nonterminals (omega (arith, w.nonterminals_limit.high, c.nonterminals_are))
      ∙ sym (lt-leb K b.nonterminals (omega (arith, w.nonterminals_limit.high)))))
