-- Condition 4 in the parts that code asks one by one: what is asked of the word of a symbol and of a node, then of lines.
-- Assumes nothing.
use Rattle.std.specs.Prelude.{ℕ, ◌-◌, Bool, true, false, ◌&&◌, List, leb, ltb, eqb, length, get_or, Option, None, Some}
use Rattle.grammar.specs.Conditions.Decides.{one_to, all, all_below}
use Rattle.grammar.specs.Data.Symbol.{left_of, right_of}
use Rattle.grammar.specs.Data.Book.{Book as Lines}
use Rattle.grammar.specs.Conditions.Tests.{
  all_leaves,
  one_nonterminal,
  right_symbol,
  declared_place,
  declared_inherited,
  declared_synthesized,
  declared_kernel,
  declared_go,
}
use Rattle.book.specs.declared.Book.{Book}
use Rattle.book.specs.Held.{kernel_at}
use Rattle.conditions.specs.declared.place.Place.{Place}
use Rattle.conditions.specs.declared.place.Place.TheVariants.{Own, At, Val}
use Rattle.conditions.specs.Asked.{Entry}

-- a symbol's word: a right symbol, a go line's symbol
unfoldable pub right_code : Book → ℕ → Bool
right_code numbers code = elim (ltb code 32) [ true ↦ one_to numbers.terminals code | false ↦ one_to numbers.nonterminals (code - 32) ]

unfoldable pub go_code : Book → ℕ → Bool
go_code numbers code = elim (ltb code 32) [ true ↦ one_to numbers.terminals code | false ↦ leb (code - 32) numbers.nonterminals ]

-- "rule 0 not n0 to one nonterminal", by its words
unfoldable pub start_code : List ℕ → Bool
start_code rules = eqb (get_or rules 0 0) 0 && eqb (get_or rules 1 0) 1 && leb 32 (get_or rules 2 0)

-- what a node reads, in a rule with so many right symbols
unfoldable pub place_code : Book → ℕ → Option Place → Bool
place_code numbers size None = true
place_code numbers size (Some (Own K)) = ltb K numbers.inherited
place_code numbers size (Some (At J K)) = one_to size J && ltb K numbers.synthesized
place_code numbers size (Some (Val J)) = one_to size J

-- rule P
unfoldable pub right_declared : ℕ → Lines → Bool
right_declared P b = all (right_symbol b) (right_of b.rules P)

unfoldable pub left_declared : ℕ → Lines → Bool
left_declared P b = elim (ltb 0 P) [ true ↦ one_to b.nonterminals (left_of b.rules P) | false ↦ true ]

unfoldable pub rule_declared : ℕ → Lines → Bool
rule_declared P b = left_declared P b && right_declared P b

unfoldable pub rules_declared : Lines → Bool
rules_declared b = all_below (length b.rules) (λ P. rule_declared P b)

-- owners and rules
unfoldable pub grammar_declared : Lines → Bool
grammar_declared b =
    (all (one_to b.nonterminals) b.inherited_owners && all (one_to b.nonterminals) b.synthesized_owners)
    && (eqb (left_of b.rules 0) 0 && one_nonterminal (right_of b.rules 0) && all_below (length b.rules) (λ P. left_declared P b)
    && all (λ r. all (right_symbol b) r.right) b.rules)

-- definitions
unfoldable pub leaves_declared : Entry → Bool
leaves_declared x = all_leaves (declared_place x.book x.line.rule) x.line.expression

unfoldable pub definition_declared : ℕ → Entry → Bool
definition_declared attributes x = ltb x.line.rule (length x.book.rules) && (ltb x.line.attribute attributes && leaves_declared x)

unfoldable pub inherited_line_declared : Entry → Bool
inherited_line_declared x = declared_inherited x.book x.line

unfoldable pub inherited_declared : Lines → Bool
inherited_declared b = all (declared_inherited b) b.inherited_definitions

unfoldable pub synthesized_declared : Lines → Bool
synthesized_declared b = all (declared_synthesized b) b.synthesized_definitions

-- the states' lines
unfoldable pub kernel_declared : ℕ → Lines → Bool
kernel_declared i b = declared_kernel b (kernel_at b.kernels i)

unfoldable pub kernels_declared : Lines → Bool
kernels_declared b = all (declared_kernel b) b.kernels

unfoldable pub goes_declared : Lines → Bool
goes_declared b = all (declared_go b) b.goes

-- all but the definitions, and the definitions
unfoldable pub names_declared : Lines → Bool
names_declared b = grammar_declared b && (kernels_declared b && goes_declared b)

unfoldable pub definitions_declared : Lines → Bool
definitions_declared b = inherited_declared b && synthesized_declared b

-- opens every definition of this module
unfoldable pub opens : Unit {0}
unfolding right_code go_code start_code place_code right_declared left_declared rule_declared rules_declared grammar_declared leaves_declared definition_declared
    inherited_line_declared inherited_declared
    synthesized_declared kernel_declared kernels_declared goes_declared names_declared definitions_declared
opens = tt
