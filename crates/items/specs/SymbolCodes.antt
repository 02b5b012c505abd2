-- Symbols by their words: symbols numbered below 32 have words below 64, and two of them are the same exactly if their words are.
-- Assumes nothing.
use Rattle.std.specs.Prelude.{ℕ, ◌+◌, ◌<◌, ◌≡◌, refl, Bool, true, false, eqb}
use Rattle.std.proofs.Common.{arith, zero-add, sym, lt-ltb, eq-eqb, ne_eqb}
use Rattle.grammar.specs.Data.Symbol.{Symbol, terminal, nonterminal}
use Rattle.grammar.specs.Automaton.Small.{number_of}
use Rattle.grammar.specs.Automaton.States.{same_symbol}
use Rattle.grammar.specs.Conditions.Decides.{Decides, refutes}
use Rattle.grammar.specs.Automaton.GoLines.{same_symbol-decides}
use Rattle.book.specs.Layout.{code_of, symbol_code}

pub terminal-code : (K : ℕ) → K < 32 → symbol_code (terminal K) ≡ K
unfolding symbol_code code_of
terminal-code K h = rw (lt-ltb K 32 h, code_of) (zero-add K)

pub nonterminal-code : (K : ℕ) → K < 32 → symbol_code (nonterminal K) ≡ 32 + K
unfolding symbol_code code_of
nonterminal-code K h = rw (lt-ltb K 32 h, code_of)

pub code-low : (X : Symbol) → number_of X < 32 → symbol_code X < 64
code-low (terminal K) h = omega (arith, terminal-code K h)
code-low (nonterminal K) h = omega (arith, nonterminal-code K h)

pub code_same : (X Y : Symbol) → number_of X < 32 → number_of Y < 32 → symbol_code X ≡ symbol_code Y → X ≡ Y
code_same (terminal K) (terminal L) h l e = let q : K ≡ L = omega (arith, terminal-code K h, terminal-code L l) in rw q
code_same (terminal K) (nonterminal L) h l e = absurd (omega (arith, terminal-code K h, nonterminal-code L l))
code_same (nonterminal K) (terminal L) h l e = absurd (omega (arith, nonterminal-code K h, terminal-code L l))
code_same (nonterminal K) (nonterminal L) h l e = let q : K ≡ L = omega (arith, nonterminal-code K h, nonterminal-code L l) in rw q

-- the test of symbols is the test of their words
pub code-test : (X Y : Symbol) → number_of X < 32 → number_of Y < 32 → same_symbol X Y ≡ eqb (symbol_code X) (symbol_code Y)
code-test X Y h l = go (same_symbol X Y) (same_symbol-decides X Y)
  where
    go : (t : Bool) → Decides t (X ≡ Y) → t ≡ eqb (symbol_code X) (symbol_code Y)
    go true d = sym (eq-eqb (symbol_code X) (symbol_code Y) (rw (d.sound refl)))
    go false d = sym (ne_eqb (symbol_code X) (symbol_code Y) (λ e. refutes d (code_same X Y h l e)))
