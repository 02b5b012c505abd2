-- What functions over a book's arrays are asked: that the numbers and the arrays that they are lent are those of one book.
-- Assumes nothing.
use Rattle.std.specs.Prelude.{ℕ, ◌+◌, ◌*◌, ◌≤◌, ◌<◌, ◌≡◌, true, length, get_or, Option, None, Some}
use mathlib.Core.List.{List, Memᴰ as Mem}
use Rattle.grammar.specs.Limits.{MAX_INHERITED, MAX_SYNTHESIZED, MAX_RIGHT, MAX_DEFINITIONS, MAX_NODES}
use Rattle.grammar.specs.Data.Symbol.{Symbol, Rule, right_of}
use Rattle.grammar.specs.Data.Term.{nodes}
use Rattle.grammar.specs.Data.Book.{InheritedDefinition, Kernel, Book as Lines}
use Rattle.grammar.specs.Conditions.Meaning.{WithinLimits, IsNonterminal, RightSymbol, Declared, Owned}
use Rattle.grammar.specs.Conditions.Tests.{within_limits}
use Rattle.grammar.specs.Conditions.Decides.{OneTo}
use Rattle.grammar.specs.Format.Ordered.{Ascending, kernel_key, Ordered}
use Rattle.book.specs.declared.Book.{Book}
use Rattle.book.specs.Held.{OwnersIn, RulesIn, DefinitionIn, DefinitionsIn, KernelsIn, GoesIn, kept}
use Rattle.conditions.specs.declared.place.Place.{Place}
use Rattle.conditions.specs.declared.place.Place.TheVariants.{Own, At, Val}

-- the numbers are the book's
pub record Counted (numbers : Book) (b : Lines) : Type 0 where
  pub terminals_are : numbers.terminals ≡ b.terminals
  pub nonterminals_are : numbers.nonterminals ≡ b.nonterminals
  pub states_are : numbers.states ≡ b.states
  pub inherited_are : numbers.inherited ≡ length b.inherited_owners
  pub synthesized_are : numbers.synthesized ≡ length b.synthesized_owners
  pub rules_are : numbers.rules ≡ length b.rules
  pub inherited_definitions_are : numbers.inherited_definitions ≡ length b.inherited_definitions
  pub synthesized_definitions_are : numbers.synthesized_definitions ≡ length b.synthesized_definitions
  pub kernels_are : numbers.kernels ≡ length b.kernels
  pub goes_are : numbers.goes ≡ length b.goes

-- the lines of one kind and their number
pub record RuleLines (rules : List ℕ) (n : ℕ) (G : List Rule) : Type 0 where
  pub count : n ≡ length G
  pub lines : RulesIn G rules

pub record DefinitionLines (definitions : List ℕ) (n : ℕ) (b : Lines) : Type 0 where
  pub count : n ≡ length b.inherited_definitions + length b.synthesized_definitions
  pub lines : DefinitionsIn b.inherited_definitions b.synthesized_definitions definitions

pub record KernelLines (kernels : List ℕ) (n : ℕ) (ks : List Kernel) : Type 0 where
  pub count : n ≡ length ks
  pub lines : KernelsIn ks kernels
  pub ascend : Ascending kernel_key ks

-- a book, but for its go lines
pub record Stored (numbers : Book) (inherited synthesized rules definitions kernels : List ℕ) (b : Lines) : Type 0 where
  pub counted : Counted numbers b
  pub ordered : Ordered b
  pub inherited-in : OwnersIn MAX_INHERITED b.inherited_owners inherited
  pub synthesized-in : OwnersIn MAX_SYNTHESIZED b.synthesized_owners synthesized
  pub rules_in : RulesIn b.rules rules
  pub definitions_in : DefinitionsIn b.inherited_definitions b.synthesized_definitions definitions
  pub kernels-in : KernelsIn b.kernels kernels

-- the same of the lines that have room, as it is before the limits are asked
pub record Kept (numbers : Book) (inherited synthesized rules definitions kernels : List ℕ) (b : Lines) : Type 0 where
  pub counted : Counted numbers b
  pub ordered : Ordered b
  pub inherited-in : OwnersIn MAX_INHERITED (kept b).inherited_owners inherited
  pub synthesized-in : OwnersIn MAX_SYNTHESIZED (kept b).synthesized_owners synthesized
  pub rules_in : RulesIn (kept b).rules rules
  pub definitions_in : DefinitionsIn (kept b).inherited_definitions (kept b).synthesized_definitions definitions
  pub kernels-in : KernelsIn (kept b).kernels kernels

-- Books that are within their limits

pub record RulesOf (numbers : Book) (rules : List ℕ) (b : Lines) : Type 0 where
  pub counted : Counted numbers b
  pub within : WithinLimits b
  pub rules_in : RulesIn b.rules rules

pub record RuleOf (numbers : Book) (rules : List ℕ) (p : ℕ) (b : Lines) : Type 0 where
  pub rules_of : RulesOf numbers rules b
  pub rule_there : p < length b.rules
  pub size_is : get_or rules (10 * p + 1) 0 ≡ length (right_of b.rules p)
  pub few_right : length (right_of b.rules p) ≤ MAX_RIGHT

pub record DefinitionsOf (numbers : Book) (rules definitions : List ℕ) (b : Lines) : Type 0 where
  pub rules_of : RulesOf numbers rules b
  pub definitions_in : DefinitionsIn b.inherited_definitions b.synthesized_definitions definitions

-- a definition of a book; a synthesized attribute's has position 0
pub record Entry : Type 0 where
  pub book : Lines
  pub line : InheritedDefinition

-- the definition in line i
pub record LineIs (definitions : List ℕ) (i : ℕ) (d : InheritedDefinition) : Type 0 where
  pub long : 49 * i + 49 ≤ length definitions
  pub room : i < MAX_DEFINITIONS
  pub few_nodes : nodes d.expression ≤ MAX_NODES
  pub line_in : DefinitionIn d.rule d.position d.attribute d.expression definitions i

pub record EntryOf (numbers : Book) (rules definitions : List ℕ) (i : ℕ) (x : Entry) : Type 0 where
  pub rules_of : RulesOf numbers rules x.book
  pub line_is : LineIs definitions i x.line

-- its rule has so many right symbols
pub record LeavesOf (numbers : Book) (definitions : List ℕ) (i size : ℕ) (x : Entry) : Type 0 where
  pub counted : Counted numbers x.book
  pub line_is : LineIs definitions i x.line
  pub size_is : size ≡ length (right_of x.book.rules x.line.rule)

pub record KernelsOf (numbers : Book) (rules kernels : List ℕ) (b : Lines) : Type 0 where
  pub rules_of : RulesOf numbers rules b
  pub ordered : Ordered b
  pub kernels-in : KernelsIn b.kernels kernels

pub record KernelOf (numbers : Book) (rules kernels : List ℕ) (i : ℕ) (b : Lines) : Type 0 where
  pub kernels_of : KernelsOf numbers rules kernels b
  pub kernel_there : i < length b.kernels

pub record GoesOf (numbers : Book) (goes : List ℕ) (b : Lines) : Type 0 where
  pub counted : Counted numbers b
  pub within : WithinLimits b
  pub goes_in : GoesIn b.goes goes

-- owners and rules
pub record GrammarOf (numbers : Book) (inherited synthesized rules : List ℕ) (b : Lines) : Type 0 where
  pub rules_of : RulesOf numbers rules b
  pub inherited-in : OwnersIn MAX_INHERITED b.inherited_owners inherited
  pub synthesized-in : OwnersIn MAX_SYNTHESIZED b.synthesized_owners synthesized

-- a whole book within its limits
pub record Within (numbers : Book) (inherited synthesized rules definitions kernels goes : List ℕ) (b : Lines) : Type 0 where
  pub stored : Stored numbers inherited synthesized rules definitions kernels b
  pub goes_in : GoesIn b.goes goes
  pub within : within_limits b ≡ true

-- Books whose owners and right symbols are declared

pub record SymbolsIn (rules : List ℕ) (b : Lines) : Type 0 where
  pub within : WithinLimits b
  pub inherited-owners : (A : ℕ) → Mem A b.inherited_owners → IsNonterminal b A
  pub synthesized-owners : (A : ℕ) → Mem A b.synthesized_owners → IsNonterminal b A
  pub right_symbols : (r : Rule) → Mem r b.rules → (X : Symbol) → Mem X r.right → RightSymbol b X
  pub rules_in : RulesIn b.rules rules

pub record DeclaredIn (inherited synthesized rules : List ℕ) (b : Lines) : Type 0 where
  pub symbols_in : SymbolsIn rules b
  pub inherited-in : OwnersIn MAX_INHERITED b.inherited_owners inherited
  pub synthesized-in : OwnersIn MAX_SYNTHESIZED b.synthesized_owners synthesized

-- what a node reads is there
abbrev pub InReach : List ℕ → List ℕ → Option Place → Type 0
InReach inherited synthesized None = Unit {0}
InReach inherited synthesized (Some (Own K)) = K < length inherited
InReach inherited synthesized (Some (At J K)) = (J ≤ MAX_RIGHT) × (K < length synthesized) × (get_or synthesized K 0 < 32)
InReach inherited synthesized (Some (Val J)) = J ≤ MAX_RIGHT

-- in rule p
pub record PlaceThere (inherited synthesized rules : List ℕ) (p : ℕ) (place : Option Place) : Type 0 where
  pub rule_there : 10 * p + 10 ≤ length rules
  pub in_reach : InReach inherited synthesized place

-- the definition in line i, declared or not
pub record LineThere (numbers : Book) (inherited synthesized rules definitions : List ℕ) (i : ℕ) (x : Entry) : Type 0 where
  pub counted : Counted numbers x.book
  pub declared_in : DeclaredIn inherited synthesized rules x.book
  pub line_is : LineIs definitions i x.line

-- its rule is declared, and has so many right symbols
pub record LeavesThere (numbers : Book) (inherited synthesized rules definitions : List ℕ) (i size : ℕ) (x : Entry) : Type 0 where
  pub declared_in : DeclaredIn inherited synthesized rules x.book
  pub leaves_of : LeavesOf numbers definitions i size x
  pub rule_there : x.line.rule < length x.book.rules

-- its position and its attribute too
pub record InheritedThere (numbers : Book) (inherited synthesized rules definitions : List ℕ) (i size : ℕ) (x : Entry) : Type 0 where
  pub leaves_there : LeavesThere numbers inherited synthesized rules definitions i size x
  pub attribute_there : x.line.attribute < length x.book.inherited_owners
  pub position_there : OneTo (length (right_of x.book.rules x.line.rule)) x.line.position
  pub few_right : length (right_of x.book.rules x.line.rule) ≤ MAX_RIGHT
  pub owner_low : get_or inherited x.line.attribute 0 < 32

pub record SynthesizedThere (numbers : Book) (inherited synthesized rules definitions : List ℕ) (i size : ℕ) (x : Entry) : Type 0 where
  pub leaves_there : LeavesThere numbers inherited synthesized rules definitions i size x
  pub attribute_there : x.line.attribute < length x.book.synthesized_owners

-- a book whose names are declared, but for its states
pub record NamedBook (numbers : Book) (inherited synthesized rules definitions : List ℕ) (b : Lines) : Type 0 where
  pub counted : Counted numbers b
  pub declared_in : DeclaredIn inherited synthesized rules b
  pub definitions_in : DefinitionsIn b.inherited_definitions b.synthesized_definitions definitions

-- a book whose definitions are of attributes that belong to their symbols, but for its states and the words of its definitions
pub record OwnedBook (numbers : Book) (inherited synthesized rules : List ℕ) (b : Lines) : Type 0 where
  pub counted : Counted numbers b
  pub ordered : Ordered b
  pub declared_in : DeclaredIn inherited synthesized rules b
  pub declared : Declared b
  pub owned : Owned b
