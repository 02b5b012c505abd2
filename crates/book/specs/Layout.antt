-- How a book that was read lies in arrays: one array for each kind of line, a line at its place, in a fixed number of words.
-- Lines past an array's room are counted and not kept. Assumes nothing.
use Rattle.std.specs.Prelude.{ℕ, zero, suc, ◌+◌, ◌*◌, true, false, List, [], ◌∷◌, ltb, length, set, get_or}
use Rattle.grammar.specs.Data.Symbol.{Symbol, terminal, nonterminal, Rule}
use Rattle.grammar.specs.Data.Term.{add, sub, min, max}
use Rattle.grammar.specs.Data.Book.{Place, own, at, val, Kernel, Go}
use Rattle.grammar.specs.Data.Postfix.{Step, push, load, operate, select}
use Rattle.grammar.specs.Automaton.ClosureSets.{set_of}

-- words from a place on
unfoldable pub write_at : ℕ → List ℕ → List ℕ → List ℕ
write_at i [] out = out
write_at i (w ∷ ws) out = write_at (suc i) ws (set out i w)

-- the words of line k, where there is room for it
unfoldable pub put_line : ℕ → ℕ → List ℕ → List ℕ → List ℕ
put_line room k line out = elim (ltb k room) [ true ↦ write_at (k * length line) line out | false ↦ out ]

-- lines from the k-th on
unfoldable pub store_lines : {A : Type 0} → (A → List ℕ) → ℕ → ℕ → List A → List ℕ → List ℕ
store_lines words room k [] out = out
store_lines words room k (x ∷ xs) out = store_lines words room (suc k) xs (put_line room k (words x) out)

-- a symbol in one word: tK is K, nK is 32 + K; 64 is a symbol that no book declares
unfoldable pub code_of : ℕ → ℕ → ℕ
code_of base K = elim (ltb K 32) [ true ↦ base + K | false ↦ 64 ]

unfoldable pub symbol_code : Symbol → ℕ
symbol_code (terminal K) = code_of 0 K
symbol_code (nonterminal K) = code_of 32 K

unfoldable pub codes : List Symbol → List ℕ
codes [] = []
codes (X ∷ β) = symbol_code X ∷ codes β

-- an attribute's owner
unfoldable pub owner_words : ℕ → List ℕ
owner_words A = A ∷ []

-- a rule: the left side, the number of right symbols, the first eight of them
unfoldable pub rule_words : Rule → List ℕ
rule_words r =
    let cs : List ℕ = codes r.right in
    r.left ∷ length r.right ∷ get_or cs 0 0 ∷ get_or cs 1 0 ∷ get_or cs 2 0 ∷ get_or cs 3 0 ∷ get_or cs 4 0 ∷ get_or cs 5 0 ∷ get_or cs 6 0 ∷ get_or cs 7 0 ∷ []

-- the largest of ascending lookaheads
unfoldable pub last_of : List ℕ → ℕ
last_of [] = 0
last_of (a ∷ []) = a
last_of (a ∷ c ∷ rest) = last_of (c ∷ rest)

-- a kernel line: state, rule, dot, the largest lookahead, the set of lookaheads
unfoldable pub kernel_words : Kernel → List ℕ
kernel_words k = k.state ∷ k.rule ∷ k.dot ∷ last_of k.lookaheads ∷ set_of k.lookaheads ∷ []

-- a go line: state, symbol, target
unfoldable pub go_words : Go → List ℕ
go_words g = g.state ∷ symbol_code g.symbol ∷ g.target ∷ []

-- a node of an expression: its kind and up to two numbers
unfoldable pub node_words : Step Place → List ℕ → List ℕ
node_words (push n) rest = 0 ∷ n ∷ 0 ∷ rest
node_words (load (own K)) rest = 1 ∷ K ∷ 0 ∷ rest
node_words (load (at J K)) rest = 2 ∷ J ∷ K ∷ rest
node_words (load (val J)) rest = 3 ∷ J ∷ 0 ∷ rest
node_words (operate add) rest = 4 ∷ 0 ∷ 0 ∷ rest
node_words (operate sub) rest = 5 ∷ 0 ∷ 0 ∷ rest
node_words (operate min) rest = 6 ∷ 0 ∷ 0 ∷ rest
node_words (operate max) rest = 7 ∷ 0 ∷ 0 ∷ rest
node_words select rest = 8 ∷ 0 ∷ 0 ∷ rest

-- the nodes in postfix order, `room` of them, zeros after the last
unfoldable pub nodes_words : ℕ → List (Step Place) → List ℕ
nodes_words zero steps = []
nodes_words (suc room) [] = 0 ∷ 0 ∷ 0 ∷ nodes_words room []
nodes_words (suc room) (s ∷ steps) = node_words s (nodes_words room steps)

-- a definition: rule, position (0 of a synthesized attribute), attribute, number of nodes, the first fifteen nodes
unfoldable pub definition_words : ℕ → ℕ → ℕ → List (Step Place) → List ℕ
definition_words P J K steps = P ∷ J ∷ K ∷ length steps ∷ nodes_words 15 steps

-- opens every definition of this module
unfoldable pub opens : Unit {0}
unfolding write_at put_line store_lines code_of symbol_code codes owner_words rule_words last_of kernel_words go_words node_words nodes_words definition_words
opens = tt
