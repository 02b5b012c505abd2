-- An expression in code: its nodes as words of a definition's line, and the operators that wait as numbers in an array.
-- Assumes nothing.
use Rattle.std.specs.Prelude.{ℕ, zero, suc, ◌+◌, ◌*◌, ◌≤◌, ◌≡◌, true, false, List, [], ◌∷◌, ltb, length, get_or}
use Rattle.grammar.specs.Limits.{MAX_NODES}
use Rattle.grammar.specs.Data.Book.{Place}
use Rattle.grammar.specs.Data.Postfix.{Step}
use Rattle.grammar.specs.Format.Expression.{Waiting, waiting}
use Rattle.book.specs.Layout.{write_at, node_words}

-- the words of a definition
abbrev pub DEFINITION_WORDS : ℕ
DEFINITION_WORDS = 49

-- room for the operators that wait in a text: each has five bytes or more
abbrev pub WaitsRoom : List ℕ → List ℕ → Type 0
WaitsRoom text waits = length text ≤ 5 * length waits + 3

-- node k of a line, in three words after the first four, where there is room for it
unfoldable pub put_node : ℕ → List ℕ → List ℕ → List ℕ
put_node k node line = elim (ltb k MAX_NODES) [ true ↦ write_at (4 + 3 * k) node line | false ↦ line ]

-- nodes from the k-th on
unfoldable pub store_nodes : ℕ → List (Step Place) → List ℕ → List ℕ
store_nodes k [] line = line
store_nodes k (s ∷ steps) line = store_nodes (suc k) steps (put_node k (node_words s []) line)

-- the kind of a node, and whether the kind is all of it
abbrev pub kind_of : Step Place → ℕ
kind_of s = get_or (node_words s []) 0 0

abbrev pub Operates : Step Place → Type 0
Operates s = node_words s [] ≡ kind_of s ∷ 0 ∷ 0 ∷ []

-- an operator that waits is one number: the kind of its node, and 16 for each operand that follows the one being read
unfoldable pub waiting_code : Waiting → ℕ
waiting_code (waiting s n) = kind_of s + 16 * n

-- the operators that wait are the first `depth` numbers of an array, the last of them on top
pub data Waits (codes : List ℕ) : ℕ → List Waiting → Type 0 where
  none_waits : Waits codes zero []
  one_waits : {depth n : ℕ} {s : Step Place} {waits : List Waiting} → Operates s → get_or codes depth 0 ≡ waiting_code (waiting s n)
      → Waits codes depth waits → Waits codes (suc depth) (waiting s n ∷ waits)

-- opens every definition of this module
unfoldable pub opens : Unit {0}
unfolding put_node store_nodes waiting_code
opens = tt
