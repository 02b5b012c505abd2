-- A message book as data (01, "Spelling of a book"): one field for each kind of line, each a list in the text's order, so that the numbers K that
-- run 0, 1, 2, .. are the places in the lists. Assumes nothing.
use Rattle.std.specs.Prelude.{ℕ, true, false, ◌&&◌, List, [], ◌∷◌, eqb, get_or}
use Rattle.grammar.specs.Data.Symbol.{Symbol, Rule}
use Rattle.grammar.specs.Data.Term.{Term, number}

-- what a definition reads: `(own iK)` of the left side, `(at J sK)` of right symbol J, `(val J)`, the value of the token at right symbol J
pub data Place : Type 0 where
  own : ℕ → Place
  at : ℕ → ℕ → Place
  val : ℕ → Place

abbrev pub Expr : Type 0
Expr = Term Place

-- `(inhdef P J iK e)`: in rule P, the inherited attribute K of right symbol J
pub record InheritedDefinition : Type 0 where
  pub rule : ℕ
  pub position : ℕ
  pub attribute : ℕ
  pub expression : Expr

-- `(syndef P sK e)`: in rule P, the synthesized attribute K of the left side
pub record SynthesizedDefinition : Type 0 where
  pub rule : ℕ
  pub attribute : ℕ
  pub expression : Expr

-- `(kernel S P D t..)`: in state S, rule P with the dot after D symbols
pub record Kernel : Type 0 where
  pub state : ℕ
  pub rule : ℕ
  pub dot : ℕ
  pub lookaheads : List ℕ

-- `(go S X M)`: from state S on symbol X to state M
pub record Go : Type 0 where
  pub state : ℕ
  pub symbol : Symbol
  pub target : ℕ

pub record Book : Type 0 where
  -- `(book T N Q)`: terminals t1..tT, nonterminals n1..nN, states 0..Q-1
  pub terminals : ℕ
  pub nonterminals : ℕ
  pub states : ℕ
  -- `(inh iK nA)` and `(syn sK nA)`: the owner A of each attribute K
  pub inherited_owners : List ℕ
  pub synthesized_owners : List ℕ
  pub rules : List Rule
  pub inherited_definitions : List InheritedDefinition
  pub synthesized_definitions : List SynthesizedDefinition
  pub kernels : List Kernel
  pub goes : List Go

-- the owner of attribute K; past the last, a number that no nonterminal has
abbrev pub owner_at : List ℕ → ℕ → ℕ
owner_at owners K = get_or owners K 32

-- the first definition of (P, J, K), and of (P, K); the number 0 where there is none
unfoldable pub inherited_in : List InheritedDefinition → ℕ → ℕ → ℕ → Expr
inherited_in [] P J K = number 0
inherited_in (d ∷ ds) P J K =
    elim (eqb d.rule P && (eqb d.position J && eqb d.attribute K)) [ true ↦ d.expression | false ↦ inherited_in ds P J K ]

unfoldable pub synthesized_in : List SynthesizedDefinition → ℕ → ℕ → Expr
synthesized_in [] P K = number 0
synthesized_in (d ∷ ds) P K = elim (eqb d.rule P && eqb d.attribute K) [ true ↦ d.expression | false ↦ synthesized_in ds P K ]

module _ (b : Book) where
  abbrev pub inherited_owner : ℕ → ℕ
  inherited_owner K = owner_at b.inherited_owners K

  abbrev pub synthesized_owner : ℕ → ℕ
  synthesized_owner K = owner_at b.synthesized_owners K

  abbrev pub inherited_expr : ℕ → ℕ → ℕ → Expr
  inherited_expr P J K = inherited_in b.inherited_definitions P J K

  abbrev pub synthesized_expr : ℕ → ℕ → Expr
  synthesized_expr P K = synthesized_in b.synthesized_definitions P K

-- opens every definition of this module
unfoldable pub opens : Unit {0}
unfolding inherited_in synthesized_in
opens = tt
