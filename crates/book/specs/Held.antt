-- What arrays hold of a book, word by word, as records that functions over the arrays ask of them. The places are those of `Layout`.
-- Assumes nothing.
use Rattle.std.specs.Prelude.{ℕ, ◌+◌, ◌*◌, ◌-◌, ◌≤◌, ◌<◌, ◌≡◌, List, [], length, get_or, take}
use Rattle.grammar.specs.Limits.{
  MAX_INHERITED,
  MAX_SYNTHESIZED,
  MAX_RULES,
  MAX_RIGHT,
  MAX_DEFINITIONS,
  MAX_NODES,
  MAX_KERNELS,
  MAX_GOES,
}
use Rattle.grammar.specs.Data.Symbol.{terminal, Rule, left_of, right_of}
use Rattle.grammar.specs.Data.Term.{number, nodes, add, sub, min, max}
use Rattle.grammar.specs.Data.Postfix.{Step, push, load, operate, select, postfix}
use Rattle.grammar.specs.Data.Book.{Place, own, at, val, Expr, InheritedDefinition, SynthesizedDefinition, Kernel, Go, Book, owner_at}
use Rattle.grammar.specs.Automaton.ClosureSets.{set_of}
use Rattle.book.specs.Layout.{symbol_code, last_of, definition_words}

-- The line of a number in each list; past the last, one that nothing reads

abbrev pub no_inherited : InheritedDefinition
no_inherited = record { rule = 0; position = 0; attribute = 0; expression = number 0 }

abbrev pub no_synthesized : SynthesizedDefinition
no_synthesized = record { rule = 0; attribute = 0; expression = number 0 }

abbrev pub no_kernel : Kernel
no_kernel = record { state = 0; rule = 0; dot = 0; lookaheads = [] }

abbrev pub no_go : Go
no_go = record { state = 0; symbol = terminal 0; target = 0 }

abbrev pub inherited_at : List InheritedDefinition → ℕ → InheritedDefinition
inherited_at ds i = get_or ds i no_inherited

abbrev pub synthesized_at : List SynthesizedDefinition → ℕ → SynthesizedDefinition
synthesized_at ds i = get_or ds i no_synthesized

abbrev pub kernel_at : List Kernel → ℕ → Kernel
kernel_at ks i = get_or ks i no_kernel

abbrev pub go_at : List Go → ℕ → Go
go_at gs i = get_or gs i no_go

-- the node of a number in an expression
abbrev pub node_at : Expr → ℕ → Step Place
node_at e n = get_or (postfix e) n select

-- The three words of a node: its kind and up to two numbers

unfoldable pub node_kind : Step Place → ℕ
node_kind (push n) = 0
node_kind (load (own K)) = 1
node_kind (load (at J K)) = 2
node_kind (load (val J)) = 3
node_kind (operate add) = 4
node_kind (operate sub) = 5
node_kind (operate min) = 6
node_kind (operate max) = 7
node_kind select = 8

unfoldable pub node_first : Step Place → ℕ
node_first (push n) = n
node_first (load (own K)) = K
node_first (load (at J K)) = J
node_first (load (val J)) = J
node_first (operate o) = 0
node_first select = 0

unfoldable pub node_second : Step Place → ℕ
node_second (push n) = 0
node_second (load (own K)) = 0
node_second (load (at J K)) = K
node_second (load (val J)) = 0
node_second (operate o) = 0
node_second select = 0

-- The words of each kind's definitions; a synthesized attribute's has position 0

abbrev pub inherited_words : InheritedDefinition → List ℕ
inherited_words d = definition_words d.rule d.position d.attribute (postfix d.expression)

abbrev pub synthesized_words : SynthesizedDefinition → List ℕ
synthesized_words d = definition_words d.rule 0 d.attribute (postfix d.expression)

-- the owners of a kind's attributes
pub record OwnersIn (room : ℕ) (owners array : List ℕ) : Type 0 where
  pub long : length array ≡ room
  pub fits : length owners ≤ room
  pub owner_is : (K : ℕ) → K < length owners → get_or array K 0 ≡ owner_at owners K

pub record RulesIn (G : List Rule) (rules : List ℕ) : Type 0 where
  pub long : 10 * length G ≤ length rules
  pub fits : length G ≤ MAX_RULES
  pub left_is : (P : ℕ) → P < length G → get_or rules (10 * P) 0 ≡ left_of G P
  pub size_is : (P : ℕ) → P < length G → get_or rules (10 * P + 1) 0 ≡ length (right_of G P)
  pub symbol_is : (P D : ℕ) → P < length G → D < length (right_of G P) → D < MAX_RIGHT
      → get_or rules (10 * P + 2 + D) 0 ≡ symbol_code (get_or (right_of G P) D (terminal 0))

-- the node s, from a place on
pub record NodeIn (s : Step Place) (definitions : List ℕ) (place : ℕ) : Type 0 where
  pub kind_is : get_or definitions place 0 ≡ node_kind s
  pub first_is : get_or definitions (place + 1) 0 ≡ node_first s
  pub second_is : get_or definitions (place + 2) 0 ≡ node_second s

-- the definition e of (P, J, K), in line i
pub record DefinitionIn (P J K : ℕ) (e : Expr) (definitions : List ℕ) (i : ℕ) : Type 0 where
  pub rule_is : get_or definitions (49 * i) 0 ≡ P
  pub position_is : get_or definitions (49 * i + 1) 0 ≡ J
  pub attribute_is : get_or definitions (49 * i + 2) 0 ≡ K
  pub nodes_is : get_or definitions (49 * i + 3) 0 ≡ nodes e
  pub node_is : (n : ℕ) → n < nodes e → n < MAX_NODES → NodeIn (node_at e n) definitions (49 * i + 4 + 3 * n)

-- the inherited attributes' definitions, and after them the synthesized ones'
pub record DefinitionsIn (inherited : List InheritedDefinition) (synthesized : List SynthesizedDefinition) (definitions : List ℕ) : Type 0 where
  pub long : 49 * (length inherited + length synthesized) ≤ length definitions
  pub fits : length inherited + length synthesized ≤ MAX_DEFINITIONS
  pub inherited_is : (i : ℕ) → i < length inherited
      → let d : InheritedDefinition = inherited_at inherited i in DefinitionIn d.rule d.position d.attribute d.expression definitions i
  pub synthesized_is : (i : ℕ) → i < length synthesized
      → let d : SynthesizedDefinition = synthesized_at synthesized i in
      DefinitionIn d.rule 0 d.attribute d.expression definitions (length inherited + i)

pub record KernelsIn (ks : List Kernel) (kernels : List ℕ) : Type 0 where
  pub long : 5 * length ks ≤ length kernels
  pub fits : length ks ≤ MAX_KERNELS
  pub state_is : (i : ℕ) → i < length ks → get_or kernels (5 * i) 0 ≡ (kernel_at ks i).state
  pub rule_is : (i : ℕ) → i < length ks → get_or kernels (5 * i + 1) 0 ≡ (kernel_at ks i).rule
  pub dot_is : (i : ℕ) → i < length ks → get_or kernels (5 * i + 2) 0 ≡ (kernel_at ks i).dot
  pub last_is : (i : ℕ) → i < length ks → get_or kernels (5 * i + 3) 0 ≡ last_of (kernel_at ks i).lookaheads
  pub set_is : (i : ℕ) → i < length ks → get_or kernels (5 * i + 4) 0 ≡ set_of (kernel_at ks i).lookaheads

pub record GoesIn (gs : List Go) (goes : List ℕ) : Type 0 where
  pub long : 3 * length gs ≤ length goes
  pub fits : length gs ≤ MAX_GOES
  pub state_is : (i : ℕ) → i < length gs → get_or goes (3 * i) 0 ≡ (go_at gs i).state
  pub symbol_is : (i : ℕ) → i < length gs → get_or goes (3 * i + 1) 0 ≡ symbol_code (go_at gs i).symbol
  pub target_is : (i : ℕ) → i < length gs → get_or goes (3 * i + 2) 0 ≡ (go_at gs i).target

-- a whole book, in six arrays
pub record Held (b : Book) (inherited synthesized rules definitions kernels goes : List ℕ) : Type 0 where
  pub inherited-in : OwnersIn MAX_INHERITED b.inherited_owners inherited
  pub synthesized-in : OwnersIn MAX_SYNTHESIZED b.synthesized_owners synthesized
  pub rules_in : RulesIn b.rules rules
  pub definitions_in : DefinitionsIn b.inherited_definitions b.synthesized_definitions definitions
  pub kernels-in : KernelsIn b.kernels kernels
  pub goes_in : GoesIn b.goes goes

-- no kind has more lines than its array has room for
pub record HasRoom (b : Book) : Type 0 where
  pub inherited_room : length b.inherited_owners ≤ MAX_INHERITED
  pub synthesized_room : length b.synthesized_owners ≤ MAX_SYNTHESIZED
  pub rules_room : length b.rules ≤ MAX_RULES
  pub definitions_room : length b.inherited_definitions + length b.synthesized_definitions ≤ MAX_DEFINITIONS
  pub kernels_room : length b.kernels ≤ MAX_KERNELS
  pub goes_room : length b.goes ≤ MAX_GOES

-- of each kind the lines that have room, which are kept while the limits are still to be asked
unfoldable pub kept : Book → Book
kept b = record {
  terminals = b.terminals;
  nonterminals = b.nonterminals;
  states = b.states;
  inherited_owners = take MAX_INHERITED b.inherited_owners;
  synthesized_owners = take MAX_SYNTHESIZED b.synthesized_owners;
  rules = take MAX_RULES b.rules;
  inherited_definitions = take MAX_DEFINITIONS b.inherited_definitions;
  synthesized_definitions = take (MAX_DEFINITIONS - length b.inherited_definitions) b.synthesized_definitions;
  kernels = take MAX_KERNELS b.kernels;
  goes = take MAX_GOES b.goes;
}

-- opens every definition of this module
unfoldable pub opens : Unit {0}
unfolding node_kind node_first node_second kept
opens = tt
