-- The conditions 3 to 6 as tests that compute. TestsLaws.antt says that they decide what Meaning.antt asks.
-- Assumes nothing.
use Rattle.std.specs.Prelude.{ℕ, ◌+◌, Bool, true, false, ◌&&◌, List, [], ◌∷◌, leb, ltb, eqb, length}
use Rattle.grammar.specs.Conditions.Decides.{one_to, all, any, all_below, all_one_to, few}
use Rattle.grammar.specs.Limits.{MAX_TERMINALS, MAX_NONTERMINALS, MAX_STATES, MAX_INHERITED, MAX_SYNTHESIZED, MAX_OWNED, MAX_RULES, MAX_RIGHT}
use Rattle.grammar.specs.Limits.{MAX_DEFINITIONS, MAX_NODES, MAX_KERNELS, MAX_STATE_KERNELS, MAX_GOES}
use Rattle.grammar.specs.Data.Symbol.{Symbol, terminal, nonterminal, left_of, right_of, symbol_at}
use Rattle.grammar.specs.Data.Term.{Term, number, leaf, both, pick, nodes}
use Rattle.grammar.specs.Data.Book.{Place, own, at, val, InheritedDefinition, SynthesizedDefinition, Kernel, Go, Book}
use Rattle.grammar.specs.Data.Book.{inherited_owner, synthesized_owner}
use Rattle.grammar.specs.Conditions.Meaning.{kernel_states}

-- the test holds of every leaf
unfoldable pub all_leaves : {A : Type 0} → (A → Bool) → Term A → Bool
all_leaves f (number n) = true
all_leaves f (leaf a) = f a
all_leaves f (both o s t) = elim (all_leaves f s) [ true ↦ all_leaves f t | false ↦ false ]
all_leaves f (pick c s t) = elim (all_leaves f c) [ true ↦ elim (all_leaves f s) [ true ↦ all_leaves f t | false ↦ false ] | false ↦ false ]

unfoldable pub is_nonterminal : ℕ → Symbol → Bool
is_nonterminal A (terminal t) = false
is_nonterminal A (nonterminal B) = eqb B A

unfoldable pub is_terminal : Symbol → Bool
is_terminal (terminal t) = true
is_terminal (nonterminal A) = false

unfoldable pub one_nonterminal : List Symbol → Bool
one_nonterminal [] = false
one_nonterminal (terminal t ∷ β) = false
one_nonterminal (nonterminal B ∷ []) = true
one_nonterminal (nonterminal B ∷ X ∷ β) = false

unfoldable pub before : ℕ → Place → Bool
before J (own K) = true
before J (at I K) = ltb I J
before J (val I) = ltb I J

module _ (b : Book) where
  -- 3, in the order of 01's sentences
  unfoldable pub sizes_fit : Bool
  sizes_fit = one_to MAX_TERMINALS b.terminals && one_to MAX_NONTERMINALS b.nonterminals && one_to MAX_STATES b.states

  unfoldable pub attributes_fit : Bool
  attributes_fit = leb (length b.inherited_owners) MAX_INHERITED && leb (length b.synthesized_owners) MAX_SYNTHESIZED
      && few MAX_OWNED b.inherited_owners && few MAX_OWNED b.synthesized_owners

  unfoldable pub rules_fit : Bool
  rules_fit = one_to MAX_RULES (length b.rules) && all (λ r. leb (length r.right) MAX_RIGHT) b.rules

  unfoldable pub definitions_fit : Bool
  definitions_fit = leb (length b.inherited_definitions + length b.synthesized_definitions) MAX_DEFINITIONS
      && all (λ d. leb (nodes d.expression) MAX_NODES) b.inherited_definitions
      && all (λ d. leb (nodes d.expression) MAX_NODES) b.synthesized_definitions

  unfoldable pub states_fit : Bool
  states_fit = leb (length b.kernels) MAX_KERNELS && few MAX_STATE_KERNELS (kernel_states b) && leb (length b.goes) MAX_GOES

  unfoldable pub within_limits : Bool
  within_limits = sizes_fit && attributes_fit && rules_fit && definitions_fit && states_fit

  -- 4, each line
  unfoldable pub right_symbol : Symbol → Bool
  right_symbol (terminal t) = one_to b.terminals t
  right_symbol (nonterminal A) = one_to b.nonterminals A

  unfoldable pub go_symbol : Symbol → Bool
  go_symbol (terminal t) = one_to b.terminals t
  go_symbol (nonterminal A) = leb A b.nonterminals

  unfoldable pub is_position : ℕ → ℕ → Bool
  is_position P J = one_to (length (right_of b.rules P)) J

  unfoldable pub declared_place : ℕ → Place → Bool
  declared_place P (own K) = ltb K (length b.inherited_owners)
  declared_place P (at J K) = is_position P J && ltb K (length b.synthesized_owners)
  declared_place P (val J) = is_position P J

  unfoldable pub declared_inherited : InheritedDefinition → Bool
  declared_inherited d = ltb d.rule (length b.rules) && is_position d.rule d.position
      && ltb d.attribute (length b.inherited_owners) && all_leaves (declared_place d.rule) d.expression

  unfoldable pub declared_synthesized : SynthesizedDefinition → Bool
  declared_synthesized d = ltb d.rule (length b.rules) && ltb d.attribute (length b.synthesized_owners)
      && all_leaves (declared_place d.rule) d.expression

  unfoldable pub declared_kernel : Kernel → Bool
  declared_kernel k = ltb k.state b.states && ltb k.rule (length b.rules) && leb k.dot (length (right_of b.rules k.rule))
      && all (λ t. leb t b.terminals) k.lookaheads

  unfoldable pub declared_go : Go → Bool
  declared_go g = ltb g.state b.states && go_symbol g.symbol && ltb g.target b.states

  -- 4
  unfoldable pub owners_declared : Bool
  owners_declared = all (one_to b.nonterminals) b.inherited_owners && all (one_to b.nonterminals) b.synthesized_owners

  unfoldable pub rules_declared : Bool
  rules_declared = eqb (left_of b.rules 0) 0 && one_nonterminal (right_of b.rules 0)
      && all_below (length b.rules) (λ P. elim (ltb 0 P) [ true ↦ one_to b.nonterminals (left_of b.rules P) | false ↦ true ])
      && all (λ r. all right_symbol r.right) b.rules

  unfoldable pub declared : Bool
  declared = owners_declared && rules_declared
      && (all declared_inherited b.inherited_definitions && all declared_synthesized b.synthesized_definitions)
      && (all declared_kernel b.kernels && all declared_go b.goes)

  -- 5, each line
  unfoldable pub nonterminal_at : ℕ → ℕ → ℕ → Bool
  nonterminal_at P J A = is_nonterminal A (symbol_at b.rules P J)

  unfoldable pub owned_place : ℕ → Place → Bool
  owned_place P (own K) = eqb (inherited_owner b K) (left_of b.rules P)
  owned_place P (at J K) = nonterminal_at P J (synthesized_owner b K)
  owned_place P (val J) = is_terminal (symbol_at b.rules P J)

  unfoldable pub owned_inherited : InheritedDefinition → Bool
  owned_inherited d = nonterminal_at d.rule d.position (inherited_owner b d.attribute) && all_leaves (owned_place d.rule) d.expression
      && all_leaves (before d.position) d.expression

  unfoldable pub owned_synthesized : SynthesizedDefinition → Bool
  owned_synthesized d = eqb (synthesized_owner b d.attribute) (left_of b.rules d.rule) && all_leaves (owned_place d.rule) d.expression

  -- 5
  unfoldable pub owned : Bool
  owned = all owned_inherited b.inherited_definitions && all owned_synthesized b.synthesized_definitions

  -- 6, each place: some line defines it
  unfoldable pub defines_inherited : ℕ → ℕ → ℕ → Bool
  defines_inherited P J K = any (λ d. eqb d.rule P && eqb d.position J && eqb d.attribute K) b.inherited_definitions

  unfoldable pub defines_synthesized : ℕ → ℕ → Bool
  defines_synthesized P K = any (λ d. eqb d.rule P && eqb d.attribute K) b.synthesized_definitions

  -- 6, each right nonterminal, each left side
  unfoldable pub right_defined : ℕ → ℕ → Bool
  right_defined P J = all_below (length b.inherited_owners) λ K.
      elim (nonterminal_at P J (inherited_owner b K)) [ true ↦ defines_inherited P J K | false ↦ true ]

  unfoldable pub left_defined : ℕ → Bool
  left_defined P = all_below (length b.synthesized_owners) λ K.
      elim (eqb (synthesized_owner b K) (left_of b.rules P)) [ true ↦ defines_synthesized P K | false ↦ true ]

  -- 6
  unfoldable pub defined : Bool
  defined = all_below (length b.rules) λ P. all_one_to (length (right_of b.rules P)) (right_defined P) && left_defined P

-- opens every definition of this module
unfoldable pub opens : Unit {0}
unfolding all_leaves is_nonterminal is_terminal one_nonterminal before sizes_fit attributes_fit rules_fit definitions_fit states_fit within_limits right_symbol
    go_symbol is_position declared_place declared_inherited declared_synthesized declared_kernel declared_go owners_declared rules_declared declared
    nonterminal_at owned_place owned_inherited owned_synthesized owned defines_inherited defines_synthesized right_defined left_defined defined
opens = tt
