-- Condition 3 in the parts that code asks one by one: the numbers, then the lines of each kind.
-- Assumes nothing.
use Rattle.std.specs.Prelude.{◌+◌, Bool, ◌&&◌, List, map, leb, length}
use Rattle.grammar.specs.Conditions.Decides.{one_to, all, few}
use Rattle.grammar.specs.Limits.{
  MAX_TERMINALS,
  MAX_NONTERMINALS,
  MAX_STATES,
  MAX_INHERITED,
  MAX_SYNTHESIZED,
  MAX_OWNED,
  MAX_RULES,
  MAX_RIGHT,
  MAX_DEFINITIONS,
  MAX_NODES,
  MAX_KERNELS,
  MAX_STATE_KERNELS,
  MAX_GOES,
}
use Rattle.grammar.specs.Data.Symbol.{Rule}
use Rattle.grammar.specs.Data.Term.{nodes}
use Rattle.grammar.specs.Data.Book.{Kernel, Book as Lines}

-- T, N and Q, and how many lines of each kind there are
unfoldable pub numbers_within : Lines → Bool
numbers_within b =
    (one_to MAX_TERMINALS b.terminals && one_to MAX_NONTERMINALS b.nonterminals && one_to MAX_STATES b.states)
    && (leb (length b.inherited_owners) MAX_INHERITED && leb (length b.synthesized_owners) MAX_SYNTHESIZED)
    && one_to MAX_RULES (length b.rules)
    && (leb (length b.inherited_definitions + length b.synthesized_definitions) MAX_DEFINITIONS && leb (length b.kernels) MAX_KERNELS
    && leb (length b.goes) MAX_GOES)

-- "rules of up to 8 right symbols"
unfoldable pub rights_within : List Rule → Bool
rights_within G = all (λ r. leb (length r.right) MAX_RIGHT) G

-- "15 nodes each"
unfoldable pub nodes_within : Lines → Bool
nodes_within b = all (λ d. leb (nodes d.expression) MAX_NODES) b.inherited_definitions
    && all (λ d. leb (nodes d.expression) MAX_NODES) b.synthesized_definitions

-- "16 per state"
unfoldable pub states_within : List Kernel → Bool
states_within ks = few MAX_STATE_KERNELS (map (λ k. k.state) ks)

-- all lines
unfoldable pub lines_within : Lines → Bool
lines_within b =
    (few MAX_OWNED b.inherited_owners && few MAX_OWNED b.synthesized_owners) && rights_within b.rules && nodes_within b && states_within b.kernels

-- opens every definition of this module
unfoldable pub opens : Unit {0}
unfolding numbers_within rights_within nodes_within states_within lines_within
opens = tt
