-- Parse trees with values (01, "The stack evaluator", third paragraph): the values that the rules give on the finished tree.
-- No state and no stack is used. Assumes nothing.
use Rattle.std.specs.Prelude.{ℕ, suc, ◌-◌, ◌≡◌, List, [], ◌∷◌, get_or}
use Rattle.grammar.specs.Data.Term.{eval}
use Rattle.grammar.specs.Data.Book.{Place, own, at, val, Book, inherited_expr, synthesized_expr}
use Rattle.grammar.specs.Evaluator.Tree.{Token, Tree, Trees}

-- a record of values, one for each attribute number
abbrev pub Values : Type 0
Values = ℕ → ℕ

abbrev pub no_values : Values
no_values K = 0

-- what a symbol hands up: a token its value, a nonterminal its synthesized values
pub data Result : Type 0 where
  token : ℕ → Result
  values : Values → Result

unfoldable pub synthesized_of : Result → Values
synthesized_of (token v) K = 0
synthesized_of (values s) K = s K

unfoldable pub token_value_of : Result → ℕ
token_value_of (token v) = v
token_value_of (values s) = 0

-- what child J hands up, the first being 1
abbrev pub child_at : List Result → ℕ → Result
child_at cs J = get_or cs (J - 1) (token 0)

-- the value of a definition's leaf: "own reads the node that has the rule, at J and val J read its child J";
-- i are the node's inherited values, cs is what its children hand up
unfoldable pub place_value : Values → List Result → Place → ℕ
place_value i cs (own K) = i K
place_value i cs (at J K) = synthesized_of (child_at cs J) K
place_value i cs (val J) = token_value_of (child_at cs J)

module _ (b : Book) where
  -- the inherited values that rule P's definitions give its right symbol J
  unfoldable pub inherited_from : ℕ → ℕ → Values → List Result → Values
  inherited_from P J i cs K = eval (inherited_expr b P J K) (place_value i cs)

  -- the synthesized values that rule P's definitions give its left side
  unfoldable pub synthesized_from : ℕ → Values → List Result → Values
  synthesized_from P i cs K = eval (synthesized_expr b P K) (place_value i cs)

-- a tree with values: a node has its rule, its inherited values, its synthesized values and its children
mutual
  pub data Decorated : Type 0 where
    leaf : Token → Decorated
    node : ℕ → Values → Values → AllDecorated → Decorated

  pub data AllDecorated : Type 0 where
    nil : AllDecorated
    cons : Decorated → AllDecorated → AllDecorated

-- the tree without its values
abbrev mutual
  pub erase : Decorated → Tree
  erase (leaf k) = Tree.leaf k
  erase (node P i s ds) = Tree.node P (erase_all ds)

  pub erase_all : AllDecorated → Trees
  erase_all nil = Trees.nil
  erase_all (cons d ds) = Trees.cons (erase d) (erase_all ds)

abbrev pub inherited_of : Decorated → Values
inherited_of (leaf k) = no_values
inherited_of (node P i s ds) = i

abbrev pub result_of : Decorated → Result
result_of (leaf k) = token k.value
result_of (node P i s ds) = values s

abbrev pub results : AllDecorated → List Result
results nil = []
results (cons d ds) = result_of d ∷ results ds

-- the inherited values of d are f; a leaf has none
pub data Inherits (f : Values) : Decorated → Type 0 where
  leaf_inherits : {k : Token} → Inherits f (leaf k)
  node_inherits : {P : ℕ} {i s : Values} {ds : AllDecorated} → i ≡ f → Inherits f (node P i s ds)

module _ (b : Book) where
  -- below the root: "a child's [inherited values come] from those of its parent's rule, synthesized values from those of the node's own rule"
  mutual
    pub data Obeys : Decorated → Type 0 where
      leaf_obeys : {k : Token} → Obeys (leaf k)
      node_obeys : {P : ℕ} {i s : Values} {ds : AllDecorated} → AllObey P i (results ds) 1 ds → s ≡ synthesized_from b P i (results ds)
          → Obeys (node P i s ds)

    -- the children from J on of a node with rule P, inherited values i and children that hand up cs
    pub data AllObey : ℕ → Values → List Result → ℕ → AllDecorated → Type 0 where
      nil_obey : {P J : ℕ} {i : Values} {cs : List Result} → AllObey P i cs J nil
      cons_obey : {P J : ℕ} {i : Values} {cs : List Result} {d : Decorated} {ds : AllDecorated}
          → Obeys d → Inherits (inherited_from b P J i cs) d → AllObey P i cs (suc J) ds → AllObey P i cs J (cons d ds)

  -- "The root's inherited values come from rule 0's definitions"; rule 0 has no node, so there is nothing for them to read
  abbrev pub root_inherited : Values
  root_inherited = inherited_from b 0 1 no_values []

-- opens every definition of this module
unfoldable pub opens : Unit {0}
unfolding synthesized_of token_value_of place_value inherited_from synthesized_from
opens = tt
