-- Rows (01, "The stack evaluator", second paragraph): the row of a token and of a node, a tree's rows in postorder, the lent words.
-- Assumes nothing.
use Rattle.std.specs.Prelude.{ℕ, zero, suc, ◌+◌, ◌-◌, ◌*◌, true, false, List, [], ◌∷◌, ◌++◌, eqb, length, get_or, replicate}
use Rattle.grammar.specs.Limits.{MAX_RULES, ROW_WORDS, PAGE_WORDS}
use Rattle.grammar.specs.Data.Symbol.{left_of}
use Rattle.grammar.specs.Data.Book.{Book, owner_at}
use Rattle.grammar.specs.Evaluator.Tree.{Token, leaves}
use Rattle.grammar.specs.Evaluator.Decorated.{Values, Decorated, leaf, node, AllDecorated, nil, cons, erase}

-- a token's terminal, start and value; a node's rule, start, inherited and synthesized values
pub data Row : Type 0 where
  token_row : ℕ → ℕ → ℕ → Row
  node_row : ℕ → ℕ → List ℕ → List ℕ → Row

-- the first four of a list, "unused words 0"
unfoldable pub four : List ℕ → List ℕ
four vs = get_or vs 0 0 ∷ get_or vs 1 0 ∷ get_or vs 2 0 ∷ get_or vs 3 0 ∷ []

-- "rule number, or 64 plus the terminal; tokens shifted before the node's first leaf; its up to 4 inherited, then its up to 4 synthesized values
-- in K order (a token's value first of these); unused words 0"
unfoldable pub words : Row → List ℕ
words (token_row a start v) = (MAX_RULES + a) ∷ start ∷ four [] ++ four (v ∷ [])
words (node_row P start is ss) = P ∷ start ∷ four is ++ four ss

unfoldable pub filled : List Row → List ℕ
filled [] = []
filled (r ∷ rs) = words r ++ filled rs

-- "Rows fill 5,120 lent words, zeros after the last"
unfoldable pub page : List Row → List ℕ
page rs = filled rs ++ replicate (PAGE_WORDS - ROW_WORDS * length rs) 0

-- the values f of the attributes below n that B owns, in K order
unfoldable pub owned_below : List ℕ → ℕ → ℕ → Values → List ℕ
owned_below owners zero B f = []
owned_below owners (suc n) B f = owned_below owners n B f ++ elim (eqb (owner_at owners n) B) [ true ↦ f n ∷ [] | false ↦ [] ]

unfoldable pub owned : List ℕ → ℕ → Values → List ℕ
owned owners B f = owned_below owners (length owners) B f

unfoldable pub row_of_token : Token → ℕ → Row
row_of_token k start = token_row k.kind start k.value

module _ (b : Book) where
  unfoldable pub row_of_node : ℕ → ℕ → Values → Values → Row
  row_of_node P start i s = node_row P start (owned b.inherited_owners (left_of b.rules P) i) (owned b.synthesized_owners (left_of b.rules P) s)

  -- the rows of a tree with p leaves left of it: "Postorder puts the children, left to right, before their node. A node's start, the second word of its
  -- row, is the number of leaves left of it, its own not counted"
  abbrev mutual
    pub rows : Decorated → ℕ → List Row
    rows (leaf k) p = row_of_token k p ∷ []
    rows (node P i s ds) p = rows_all ds p ++ (row_of_node P p i s ∷ [])

    pub rows_all : AllDecorated → ℕ → List Row
    rows_all nil p = []
    rows_all (cons d ds) p = rows d p ++ rows_all ds (p + length (leaves (erase d)))

-- opens every definition of this module
unfoldable pub opens : Unit {0}
unfolding four words filled page owned_below owned row_of_token row_of_node
opens = tt
