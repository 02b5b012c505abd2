-- What 01 asks of a book that is spelled right, before its states are looked at (rows 3 to 6 of "Turned-back input"): the limits (3), declared names
-- and places (4), attributes that belong to their symbols (5), no definition missing (6). A row is answered only where no lower one is, so no
-- condition repeats what an earlier one asks. Assumes nothing.
use Rattle.std.specs.Prelude.{ℕ, ◌+◌, ◌≤◌, ◌<◌, ◌≡◌, length}
use mathlib.Core.List.{List, [], ◌∷◌, map, Memᴰ as Mem}
use Rattle.grammar.specs.Conditions.Decides.{OneTo, count}
use Rattle.grammar.specs.Limits.{MAX_TERMINALS, MAX_NONTERMINALS, MAX_STATES, MAX_INHERITED, MAX_SYNTHESIZED, MAX_OWNED, MAX_RULES, MAX_RIGHT}
use Rattle.grammar.specs.Limits.{MAX_DEFINITIONS, MAX_NODES, MAX_KERNELS, MAX_STATE_KERNELS, MAX_GOES}
use Rattle.grammar.specs.Data.Symbol.{Symbol, terminal, nonterminal, Rule, left_of, right_of, symbol_at}
use Rattle.grammar.specs.Data.Term.{nodes, Leaves}
use Rattle.grammar.specs.Data.Book.{Place, own, at, val, InheritedDefinition, SynthesizedDefinition, Kernel, Go, Book, inherited_owner}
use Rattle.grammar.specs.Data.Book.{synthesized_owner}

-- the states of the kernel lines, in order
abbrev pub kernel_states : Book → List ℕ
kernel_states b = map (λ k. k.state) b.kernels

-- a leaf reads the left side, or a right symbol that stands left of position J
abbrev pub Before : ℕ → Place → Type 0
Before J (own K) = Unit {0}
Before J (at I K) = I < J
Before J (val I) = I < J

-- the line is a definition of (P, J, K), of (P, K)
abbrev pub InheritedOf : ℕ → ℕ → ℕ → InheritedDefinition → Type 0
InheritedOf P J K d = (d.rule ≡ P) × (d.position ≡ J) × (d.attribute ≡ K)

abbrev pub SynthesizedOf : ℕ → ℕ → SynthesizedDefinition → Type 0
SynthesizedOf P K d = (d.rule ≡ P) × (d.attribute ≡ K)

module _ (b : Book) where
  -- 3: "a limit above". Per nonterminal and per state the number is counted as it is written, declared or not
  pub record WithinLimits : Type 0 where
    -- "T and N are 1 to 31, Q 1 to 128"
    pub terminals_limit : OneTo MAX_TERMINALS b.terminals
    pub nonterminals_limit : OneTo MAX_NONTERMINALS b.nonterminals
    pub states_limit : OneTo MAX_STATES b.states
    -- "16 inherited and 32 synthesized attributes, 4 of each per nonterminal"
    pub inherited_limit : length b.inherited_owners ≤ MAX_INHERITED
    pub synthesized_limit : length b.synthesized_owners ≤ MAX_SYNTHESIZED
    pub inherited_each : (A : ℕ) → count A b.inherited_owners ≤ MAX_OWNED
    pub synthesized_each : (A : ℕ) → count A b.synthesized_owners ≤ MAX_OWNED
    -- "1 to 64 rules of up to 8 right symbols"
    pub rules_limit : OneTo MAX_RULES (length b.rules)
    pub right_limit : (r : Rule) → Mem r b.rules → length r.right ≤ MAX_RIGHT
    -- "128 definitions together, 15 nodes each"
    pub definitions_limit : length b.inherited_definitions + length b.synthesized_definitions ≤ MAX_DEFINITIONS
    pub inherited_nodes : (d : InheritedDefinition) → Mem d b.inherited_definitions → nodes d.expression ≤ MAX_NODES
    pub synthesized_nodes : (d : SynthesizedDefinition) → Mem d b.synthesized_definitions → nodes d.expression ≤ MAX_NODES
    -- "512 kernel lines, 16 per state, 1,024 go lines"
    pub kernels_limit : length b.kernels ≤ MAX_KERNELS
    pub kernels_each : (S : ℕ) → count S (kernel_states b) ≤ MAX_STATE_KERNELS
    pub goes_limit : length b.goes ≤ MAX_GOES

  -- 4, what a line may name: "terminals t1..tT, nonterminals n1..nN, states 0..Q-1", attributes and rules that have a line, and of a rule P the
  -- positions of its right symbols, "first is 1"
  abbrev pub IsNonterminal : ℕ → Type 0
  IsNonterminal A = OneTo b.nonterminals A

  abbrev pub IsTerminal : ℕ → Type 0
  IsTerminal t = OneTo b.terminals t

  abbrev pub IsState : ℕ → Type 0
  IsState S = S < b.states

  abbrev pub IsInherited : ℕ → Type 0
  IsInherited K = K < length b.inherited_owners

  abbrev pub IsSynthesized : ℕ → Type 0
  IsSynthesized K = K < length b.synthesized_owners

  abbrev pub IsRule : ℕ → Type 0
  IsRule P = P < length b.rules

  abbrev pub IsPosition : ℕ → ℕ → Type 0
  IsPosition P J = OneTo (length (right_of b.rules P)) J

  -- a right symbol: not "t0 in a rule", not "n0 right"
  abbrev pub RightSymbol : Symbol → Type 0
  RightSymbol (terminal t) = IsTerminal t
  RightSymbol (nonterminal A) = IsNonterminal A

  -- a go line's symbol: not "t0 in a .. go"; n0 is the go rules' affair (8)
  abbrev pub GoSymbol : Symbol → Type 0
  GoSymbol (terminal t) = IsTerminal t
  GoSymbol (nonterminal A) = A ≤ b.nonterminals

  -- a leaf of a definition in rule P
  abbrev pub DeclaredPlace : ℕ → Place → Type 0
  DeclaredPlace P (own K) = IsInherited K
  DeclaredPlace P (at J K) = IsPosition P J × IsSynthesized K
  DeclaredPlace P (val J) = IsPosition P J

  pub record DeclaredInherited (d : InheritedDefinition) : Type 0 where
    pub rule_there : IsRule d.rule
    pub position_there : IsPosition d.rule d.position
    pub attribute_there : IsInherited d.attribute
    pub leaves_there : Leaves (DeclaredPlace d.rule) d.expression

  pub record DeclaredSynthesized (d : SynthesizedDefinition) : Type 0 where
    pub rule_there : IsRule d.rule
    pub attribute_there : IsSynthesized d.attribute
    pub leaves_there : Leaves (DeclaredPlace d.rule) d.expression

  pub record DeclaredKernel (k : Kernel) : Type 0 where
    pub state_there : IsState k.state
    pub rule_there : IsRule k.rule
    -- not "dot past the end"
    pub dot_there : k.dot ≤ length (right_of b.rules k.rule)
    pub lookaheads_there : (t : ℕ) → Mem t k.lookaheads → t ≤ b.terminals

  pub record DeclaredGo (g : Go) : Type 0 where
    pub state_there : IsState g.state
    pub symbol_there : GoSymbol g.symbol
    pub target_there : IsState g.target

  -- 4: no "undeclared name, rule, position or state", and what else the row has
  pub record Declared : Type 0 where
    -- "n0 .. owning" is refused with the undeclared owners
    pub inherited-owners : (A : ℕ) → Mem A b.inherited_owners → IsNonterminal A
    pub synthesized-owners : (A : ℕ) → Mem A b.synthesized_owners → IsNonterminal A
    -- "rule 0 not n0 to one nonterminal"
    pub start_left : left_of b.rules 0 ≡ 0
    pub start_right : (B : ℕ) × (right_of b.rules 0 ≡ nonterminal B ∷ [])
    -- "n0 .. left outside rule 0"
    pub left_sides : (P : ℕ) → 0 < P → IsRule P → IsNonterminal (left_of b.rules P)
    -- "t0 in a rule", "n0 right"
    pub right_symbols : (r : Rule) → Mem r b.rules → (X : Symbol) → Mem X r.right → RightSymbol X
    pub inherited-declared : (d : InheritedDefinition) → Mem d b.inherited_definitions → DeclaredInherited d
    pub synthesized-declared : (d : SynthesizedDefinition) → Mem d b.synthesized_definitions → DeclaredSynthesized d
    pub kernels-declared : (k : Kernel) → Mem k b.kernels → DeclaredKernel k
    pub goes_declared : (g : Go) → Mem g b.goes → DeclaredGo g

  -- right symbol J of rule P is the nonterminal A; it is a terminal
  abbrev pub NonterminalAt : ℕ → ℕ → ℕ → Type 0
  NonterminalAt P J A = symbol_at b.rules P J ≡ nonterminal A

  abbrev pub TerminalAt : ℕ → ℕ → Type 0
  TerminalAt P J = (t : ℕ) × (symbol_at b.rules P J ≡ terminal t)

  -- 5, a leaf of a definition in rule P: own of the left side, at of a nonterminal that has the attribute, val of a terminal
  abbrev pub OwnedPlace : ℕ → Place → Type 0
  OwnedPlace P (own K) = inherited_owner b K ≡ left_of b.rules P
  OwnedPlace P (at J K) = NonterminalAt P J (synthesized_owner b K)
  OwnedPlace P (val J) = TerminalAt P J

  pub record OwnedInherited (d : InheritedDefinition) : Type 0 where
    pub target_owns : NonterminalAt d.rule d.position (inherited_owner b d.attribute)
    pub leaves-owned : Leaves (OwnedPlace d.rule) d.expression
    -- "in inhdef, at or val with J not left of the target"
    pub leaves_before : Leaves (Before d.position) d.expression

  pub record OwnedSynthesized (d : SynthesizedDefinition) : Type 0 where
    pub left_owns : synthesized_owner b d.attribute ≡ left_of b.rules d.rule
    pub leaves-owned : Leaves (OwnedPlace d.rule) d.expression

  -- 5: no "attribute not its symbol's; val of a nonterminal", and the leaves of an inherited attribute's definition stand left of it
  pub record Owned : Type 0 where
    pub inherited_owned : (d : InheritedDefinition) → Mem d b.inherited_definitions → OwnedInherited d
    pub synthesized_owned : (d : SynthesizedDefinition) → Mem d b.synthesized_definitions → OwnedSynthesized d

  -- there is a definition of (P, J, K), and of (P, K)
  abbrev pub DefinesInherited : ℕ → ℕ → ℕ → Type 0
  DefinesInherited P J K = (d : InheritedDefinition) × Mem d b.inherited_definitions × InheritedOf P J K d

  abbrev pub DefinesSynthesized : ℕ → ℕ → Type 0
  DefinesSynthesized P K = (d : SynthesizedDefinition) × Mem d b.synthesized_definitions × SynthesizedOf P K d

  -- 6: in no rule "an inherited attribute of a right nonterminal or a synthesized one of the left side has no definition"
  pub record Defined : Type 0 where
    pub inherited-defined : (P J K : ℕ) → IsRule P → IsPosition P J → IsInherited K → NonterminalAt P J (inherited_owner b K) → DefinesInherited P J K
    pub synthesized-defined : (P K : ℕ) → IsRule P → IsSynthesized K → synthesized_owner b K ≡ left_of b.rules P → DefinesSynthesized P K
