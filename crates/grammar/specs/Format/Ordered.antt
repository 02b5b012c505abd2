-- Which books have a text (01, "Spelling of a book"): lines that ascend strictly, and numbers of 32 bits. Condition 2 of a text is that it is
-- the text of such a book. Assumes nothing.
use Rattle.std.specs.Prelude.{ℕ, ◌<◌, ◌≤◌, ◌≡◌, List, [], ◌∷◌, length}
use Rattle.grammar.specs.Data.Symbol.{Symbol, terminal, nonterminal, Rule}
use Rattle.grammar.specs.Data.Term.{Operator, number, leaf, both, pick}
use Rattle.grammar.specs.Data.Book.{Place, own, at, val, Expr, InheritedDefinition, SynthesizedDefinition, Kernel, Go, Book}
use Rattle.grammar.specs.Limits.{NUMBERS}
use Rattle.grammar.specs.Format.Print.{print_book}

-- Order of lines

-- one key stands strictly before another, number by number; the empty key before all others
pub data Before : List ℕ → List ℕ → Type 0 where
  before_empty : {y : ℕ} {ys : List ℕ} → Before [] (y ∷ ys)
  before_less : {x y : ℕ} {xs ys : List ℕ} → x < y → Before (x ∷ xs) (y ∷ ys)
  before_same : {x : ℕ} {xs ys : List ℕ} → Before xs ys → Before (x ∷ xs) (x ∷ ys)

-- the keys ascend strictly, from a last key on
pub data Ascends {A : Type 0} (key : A → List ℕ) : List ℕ → List A → Type 0 where
  ascends-[] : {last : List ℕ} → Ascends key last []
  ascends-∷ : {last : List ℕ} {x : A} {xs : List A} → Before last (key x) → Ascends key (key x) xs → Ascends key last (x ∷ xs)

abbrev pub Ascending : {A : Type 0} → (A → List ℕ) → List A → Type 0
Ascending key xs = Ascends key [] xs

-- "Inhdef lines ascend strictly by (P,J,K), syndef by (P,K), kernel by (S,P,D), go by S, then terminals before nonterminals, then K"
unfoldable pub inherited_key : InheritedDefinition → List ℕ
inherited_key d = d.rule ∷ d.position ∷ d.attribute ∷ []

unfoldable pub synthesized_key : SynthesizedDefinition → List ℕ
synthesized_key d = d.rule ∷ d.attribute ∷ []

unfoldable pub kernel_key : Kernel → List ℕ
kernel_key k = k.state ∷ k.rule ∷ k.dot ∷ []

unfoldable pub symbol_key : Symbol → List ℕ
symbol_key (terminal K) = 0 ∷ K ∷ []
symbol_key (nonterminal K) = 1 ∷ K ∷ []

unfoldable pub go_key : Go → List ℕ
go_key g = g.state ∷ symbol_key g.symbol

unfoldable pub lookahead_key : ℕ → List ℕ
lookahead_key a = a ∷ []

-- every element has the property
pub data Every {A : Type 0} (P : A → Type 0) : List A → Type 0 where
  every-[] : Every P []
  every-∷ : {x : A} {xs : List A} → P x → Every P xs → Every P (x ∷ xs)

-- "one or more lookaheads, strictly ascending"
pub record Lookaheads (k : Kernel) : Type 0 where
  pub some : 0 < length k.lookaheads
  pub ascend : Ascending lookahead_key k.lookaheads

pub record Ordered (b : Book) : Type 0 where
  pub inherited : Ascending inherited_key b.inherited_definitions
  pub synthesized : Ascending synthesized_key b.synthesized_definitions
  pub kernels : Ascending kernel_key b.kernels
  pub lookaheads : Every Lookaheads b.kernels
  pub goes : Ascending go_key b.goes

-- Numbers: "at most 4,294,967,295"

abbrev pub Fits : ℕ → Type 0
Fits n = n < NUMBERS

pub data SymbolFits : Symbol → Type 0 where
  terminal_fits : {K : ℕ} → Fits K → SymbolFits (terminal K)
  nonterminal_fits : {K : ℕ} → Fits K → SymbolFits (nonterminal K)

pub data PlaceFits : Place → Type 0 where
  own_fits : {K : ℕ} → Fits K → PlaceFits (own K)
  at_fits : {J K : ℕ} → Fits J → Fits K → PlaceFits (at J K)
  val_fits : {J : ℕ} → Fits J → PlaceFits (val J)

pub data ExpressionFits : Expr → Type 0 where
  number_fits : {n : ℕ} → Fits n → ExpressionFits (number n)
  leaf_fits : {place : Place} → PlaceFits place → ExpressionFits (leaf place)
  both_fits : {o : Operator} {x y : Expr} → ExpressionFits x → ExpressionFits y → ExpressionFits (both o x y)
  pick_fits : {c x y : Expr} → ExpressionFits c → ExpressionFits x → ExpressionFits y → ExpressionFits (pick c x y)

pub record RuleFits (r : Rule) : Type 0 where
  pub left : Fits r.left
  pub right : Every SymbolFits r.right

pub record InheritedFits (d : InheritedDefinition) : Type 0 where
  pub rule : Fits d.rule
  pub position : Fits d.position
  pub attribute : Fits d.attribute
  pub expression : ExpressionFits d.expression

pub record SynthesizedFits (d : SynthesizedDefinition) : Type 0 where
  pub rule : Fits d.rule
  pub attribute : Fits d.attribute
  pub expression : ExpressionFits d.expression

pub record KernelFits (k : Kernel) : Type 0 where
  pub state : Fits k.state
  pub rule : Fits k.rule
  pub dot : Fits k.dot
  pub lookaheads : Every Fits k.lookaheads

pub record GoFits (g : Go) : Type 0 where
  pub state : Fits g.state
  pub symbol : SymbolFits g.symbol
  pub target : Fits g.target

-- the numbers K that run from 0 fit if there are at most 2^32 lines
pub record Numbered {A : Type 0} (P : A → Type 0) (xs : List A) : Type 0 where
  pub count : length xs ≤ NUMBERS
  pub every : Every P xs

-- every number that the text writes
pub record BookFits (b : Book) : Type 0 where
  pub terminals : Fits b.terminals
  pub nonterminals : Fits b.nonterminals
  pub states : Fits b.states
  pub inherited_owners : Numbered Fits b.inherited_owners
  pub synthesized_owners : Numbered Fits b.synthesized_owners
  pub rules : Numbered RuleFits b.rules
  pub inherited_definitions : Every InheritedFits b.inherited_definitions
  pub synthesized_definitions : Every SynthesizedFits b.synthesized_definitions
  pub kernels : Every KernelFits b.kernels
  pub goes : Every GoFits b.goes

pub record Spelled (b : Book) : Type 0 where
  pub ordered : Ordered b
  pub fits : BookFits b

-- condition 2: the text is a book's
pub record SpelledText (text : List ℕ) : Type 0 where
  pub book : Book
  pub spelled : Spelled book
  pub same_text : text ≡ print_book book

-- opens every definition of this module
unfoldable pub opens : Unit {0}
unfolding inherited_key synthesized_key kernel_key symbol_key go_key lookahead_key
opens = tt
