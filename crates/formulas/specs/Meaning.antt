-- The formulas that the numbers of a table mean. Equal formulas have equal numbers, equal numbers mean equal formulas, and a table that grows keeps
-- what its numbers mean. Assumes nothing.
use Rattle.std.specs.Prelude.{ℕ, ◌<◌, ◌≡◌, refl, List}
use Rattle.std.proofs.Common.{sym, ap, ◌∙◌, subst, arith}
use Rattle.grammar.specs.Data.Term.{number, leaf, both, pick}
use Rattle.grammar.specs.Formulas.Formula.{Formula}
use Rattle.grammar.specs.Formulas.Formula as formula
use Rattle.grammar.specs.Data.Term as term
use Rattle.formulas.specs.declared.nodes.Leaf.{Leaf}
use Rattle.formulas.specs.declared.nodes.Operator.{Operator}
use Rattle.formulas.specs.declared.nodes.Node.{Node}
use Rattle.formulas.specs.declared.nodes.Node.TheVariants.{Number, Leaf as OfLeaf, Both, Pick}
use Rattle.formulas.specs.Nodes.{leaf_of, operator_of, row_of, one-leaf, one-operator, one-node}
use Rattle.formulas.specs.Table.{row_at, Table, Grown, Added}

module _ (table : List ℕ) (used : ℕ) where
  mutual
    -- a number of a table means the formula that its node builds
    pub data Means : ℕ → Formula → Type 0 where
      means : {i : ℕ} {node : Node} {f : Formula} → i < used → row_at table i ≡ row_of node → Builds node f → Means i f

    -- a node builds a formula from those that its operands mean
    pub data Builds : Node → Formula → Type 0 where
      a_number : {n : ℕ} → Builds (Number n) (number n)
      a_leaf : {l : Leaf} {x : formula.Leaf} → leaf_of l ≡ x → Builds (OfLeaf l) (leaf x)
      a_both : {o : Operator} {p : term.Operator} {x y : ℕ} {f g : Formula} → operator_of o ≡ p → Means x f → Means y g → Builds (Both o x y) (both p f g)
      a_pick : {c x y : ℕ} {f g h : Formula} → Means c f → Means x g → Means y h → Builds (Pick c x y) (pick f g h)

  -- equal numbers mean equal formulas
  mutual
    pub one-formula : {i : ℕ} {f g : Formula} → Means i f → Means i g → f ≡ g
    one-formula (means {node = n} h r b) (means {node = m} {f = g} h' r' b') =
        same-formula b (subst (λ k. Builds k g) (one-node m n (sym r' ∙ r)) b')

    same-formula : {n : Node} {f g : Formula} → Builds n f → Builds n g → f ≡ g
    same-formula a_number a_number = refl
    same-formula (a_leaf e) (a_leaf e') = cc
    same-formula (a_both e p q) (a_both e' p' q') = cc (one-formula p p', one-formula q q')
    same-formula (a_pick p q r) (a_pick p' q' r') = cc (one-formula p p', one-formula q q', one-formula r r')

module _ {table heads nexts : List ℕ} {used : ℕ} (T : Table table heads nexts used) where
  -- equal formulas have equal numbers
  mutual
    pub one_number : {i j : ℕ} {f : Formula} → Means table used i f → Means table used j f → i ≡ j
    one_number {i} {j} (means {node = n} h r b) (means {node = m} h' r' b') = T.once i j h h' (r ∙ ap row_of (same-node b b') ∙ sym r')

    same-node : {n m : Node} {f : Formula} → Builds table used n f → Builds table used m f → n ≡ m
    same-node a_number a_number = refl
    same-node (a_leaf {l = l} e) (a_leaf {l = l'} e') = ap OfLeaf (one-leaf l l' (e ∙ sym e'))
    same-node (a_both {o = o} e p q) (a_both {o = o'} e' p' q') = cc (one-operator o o' (e ∙ sym e'), one_number p p', one_number q q')
    same-node (a_pick p q r) (a_pick p' q' r') = cc (one_number p p', one_number q q', one_number r r')

-- a table that grows keeps what its numbers mean
module _ {old new : List ℕ} {used count : ℕ} (G : Grown old used new count) where
  mutual
    pub means-kept : {i : ℕ} {f : Formula} → Means old used i f → Means new count i f
    means-kept {i} (means h r b) = let there : i < count = omega (arith, G.grows) in means there (G.kept i h ∙ r) (builds-kept b)

    pub builds-kept : {n : Node} {f : Formula} → Builds old used n f → Builds new count n f
    builds-kept a_number = a_number
    builds-kept (a_leaf e) = a_leaf e
    builds-kept (a_both e p q) = a_both e (means-kept p) (means-kept q)
    builds-kept (a_pick p q r) = a_pick (means-kept p) (means-kept q) (means-kept r)

-- the number of an interned node means the formula that the node builds
pub means-added : {node : Node} {old new heads nexts : List ℕ} {used number count : ℕ} {f : Formula} → Added node old used new heads nexts number count
    → Builds old used node f → Means new count number f
means-added A b = means A.there A.is (builds-kept A.grown b)
