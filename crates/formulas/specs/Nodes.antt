-- The nodes of interned formulas: what the code's leaves and operators are in `Formula`, and a node as a row of four words, its kind first.
-- No two nodes have one row. Assumes nothing.
use Rattle.std.specs.Prelude.{ℕ, ◌≡◌, refl, List, [], ◌∷◌, get_or}
use Rattle.std.proofs.Common.{sym, ap, ◌∙◌}
use Rattle.grammar.specs.Data.Term as term
use Rattle.grammar.specs.Formulas.Formula as formula
use Rattle.grammar.specs.Formulas.Formula.{slot, attribute, token_value}
use Rattle.formulas.specs.declared.nodes.Stack.{Stack}
use Rattle.formulas.specs.declared.nodes.Stack.TheVariants.{Inherited, Synthesized}
use Rattle.formulas.specs.declared.nodes.Leaf.{Leaf}
use Rattle.formulas.specs.declared.nodes.Leaf.TheVariants.{Attribute, TokenValue}
use Rattle.formulas.specs.declared.nodes.Operator.{Operator}
use Rattle.formulas.specs.declared.nodes.Operator.TheVariants.{Add, Sub, Min, Max}
use Rattle.formulas.specs.declared.nodes.Node.{Node}
use Rattle.formulas.specs.declared.nodes.Node.TheVariants.{Number, Leaf as OfLeaf, Both, Pick}
use Rattle.formulas.specs.declared.nodes.Row.{Row}

-- The code's stacks, leaves and operators as those of formulas, and back

abbrev pub stack_of : Stack → formula.Stack
stack_of Inherited = formula.inherited
stack_of Synthesized = formula.synthesized

abbrev pub leaf_of : Leaf → formula.Leaf
leaf_of (Attribute s offset K) = slot (stack_of s) offset (attribute K)
leaf_of (TokenValue s offset) = slot (stack_of s) offset token_value

abbrev pub operator_of : Operator → term.Operator
operator_of Add = term.add
operator_of Sub = term.sub
operator_of Min = term.min
operator_of Max = term.max

abbrev stack_in : formula.Stack → Stack
stack_in formula.inherited = Inherited
stack_in formula.synthesized = Synthesized

abbrev leaf_in : formula.Leaf → Leaf
leaf_in (slot s offset (attribute K)) = Attribute (stack_in s) offset K
leaf_in (slot s offset token_value) = TokenValue (stack_in s) offset

abbrev operator_in : term.Operator → Operator
operator_in term.add = Add
operator_in term.sub = Sub
operator_in term.min = Min
operator_in term.max = Max

leaf-back : (l : Leaf) → leaf_in (leaf_of l) ≡ l
leaf-back (Attribute Inherited offset K) = refl
leaf-back (Attribute Synthesized offset K) = refl
leaf-back (TokenValue Inherited offset) = refl
leaf-back (TokenValue Synthesized offset) = refl

operator-back : (o : Operator) → operator_in (operator_of o) ≡ o
operator-back Add = refl
operator-back Sub = refl
operator-back Min = refl
operator-back Max = refl

pub one-leaf : (l m : Leaf) → leaf_of l ≡ leaf_of m → l ≡ m
one-leaf l m e = sym (leaf-back l) ∙ ap leaf_in e ∙ leaf-back m

pub one-operator : (o p : Operator) → operator_of o ≡ operator_of p → o ≡ p
one-operator o p e = sym (operator-back o) ∙ ap operator_in e ∙ operator-back p

-- Rows

-- a row of the code
abbrev pub shown : Row → List ℕ
shown r = r.kind ∷ r.first ∷ r.second ∷ r.third ∷ []

abbrev pub leaf_row : Leaf → List ℕ
leaf_row (Attribute Inherited offset K) = 1 ∷ offset ∷ K ∷ 0 ∷ []
leaf_row (Attribute Synthesized offset K) = 2 ∷ offset ∷ K ∷ 0 ∷ []
leaf_row (TokenValue Inherited offset) = 3 ∷ offset ∷ 0 ∷ 0 ∷ []
leaf_row (TokenValue Synthesized offset) = 4 ∷ offset ∷ 0 ∷ 0 ∷ []

abbrev pub operator_kind : Operator → ℕ
operator_kind Add = 5
operator_kind Sub = 6
operator_kind Min = 7
operator_kind Max = 8

abbrev pub row_of : Node → List ℕ
row_of (Number n) = 0 ∷ n ∷ 0 ∷ 0 ∷ []
row_of (OfLeaf l) = leaf_row l
row_of (Both o x y) = operator_kind o ∷ x ∷ y ∷ 0 ∷ []
row_of (Pick c x y) = 9 ∷ c ∷ x ∷ y ∷ []

-- the nodes with the words x, y, z, by their kinds from 0 on
abbrev kinds : ℕ → ℕ → ℕ → List Node
kinds x y z =
    Number x
    ∷ OfLeaf (Attribute Inherited x y) ∷ OfLeaf (Attribute Synthesized x y) ∷ OfLeaf (TokenValue Inherited x) ∷ OfLeaf (TokenValue Synthesized x)
    ∷ Both Add x y ∷ Both Sub x y ∷ Both Min x y ∷ Both Max x y ∷ Pick x y z ∷ []

abbrev node_of : List ℕ → Node
node_of row = get_or (kinds (get_or row 1 0) (get_or row 2 0) (get_or row 3 0)) (get_or row 0 0) (Number 0)

node-back : (n : Node) → node_of (row_of n) ≡ n
node-back (Number n) = refl
node-back (OfLeaf (Attribute Inherited offset K)) = refl
node-back (OfLeaf (Attribute Synthesized offset K)) = refl
node-back (OfLeaf (TokenValue Inherited offset)) = refl
node-back (OfLeaf (TokenValue Synthesized offset)) = refl
node-back (Both Add x y) = refl
node-back (Both Sub x y) = refl
node-back (Both Min x y) = refl
node-back (Both Max x y) = refl
node-back (Pick c x y) = refl

pub one-node : (n m : Node) → row_of n ≡ row_of m → n ≡ m
one-node n m e = sym (node-back n) ∙ ap node_of e ∙ node-back m
