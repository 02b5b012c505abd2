-- Symbols and rules of a grammar; a rule's right side after a dot.
-- Assumes nothing.
use Rattle.std.specs.Prelude.{ℕ, ◌-◌, List, [], ◌∷◌, get_or, drop}

-- "terminal tK, nonterminal nK"; t0 is the end mark, n0 the added start
pub data Symbol : Type 0 where
  terminal : ℕ → Symbol
  nonterminal : ℕ → Symbol
  deriving Discrete as Symbol-discrete

pub record Rule : Type 0 where
  pub left : ℕ
  pub right : List Symbol

-- the rule of a number; past the last, one that no tree uses
unfoldable pub rule_at : List Rule → ℕ → Rule
rule_at G P = get_or G P (record { left = 0; right = [] })

abbrev pub left_of : List Rule → ℕ → ℕ
left_of G P = (rule_at G P).left

abbrev pub right_of : List Rule → ℕ → List Symbol
right_of G P = (rule_at G P).right

-- right symbol J of rule P, the first being 1; where there is none, the end mark
unfoldable pub symbol_at : List Rule → ℕ → ℕ → Symbol
symbol_at G P J = get_or (right_of G P) (J - 1) (terminal 0)

-- the symbols of rule P's right side after the dot D
abbrev pub after : List Rule → ℕ → ℕ → List Symbol
after G P D = drop D (right_of G P)

abbrev pub first_symbol : List Symbol → Symbol
first_symbol [] = terminal 0
first_symbol (X ∷ β) = X

-- rule 0's right side is one symbol: what a whole message stands for
abbrev pub goal : List Rule → Symbol
goal G = first_symbol (right_of G 0)

-- opens every definition of this module
unfoldable pub opens : Unit {0}
unfolding rule_at symbol_at
opens = tt
