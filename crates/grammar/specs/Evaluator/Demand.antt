-- Demand 3: what the stack evaluator (Machine.antt) answers on any list of the book's tokens, stated alone; proofs/Evaluator/DemandProof.antt proves it.
-- Trees and their values (Tree.antt, Decorated.antt) know nothing of states and stacks. Assumes nothing.
use Rattle.std.specs.Prelude.{◌-◌, ◌*◌, ◌≤◌, ◌≡◌, ◌↔◌, List, length, drop, replicate}
use Rattle.grammar.specs.Limits.{MAX_ROWS, ROW_WORDS, PAGE_WORDS, MAX_STACK}
use Rattle.grammar.specs.Data.Symbol.{goal}
use Rattle.grammar.specs.Data.Book.{Book}
use Rattle.grammar.specs.Evaluator.Tree.{Token, Tree, leaves, size, need, TokensOf, Stands}
use Rattle.grammar.specs.Evaluator.Decorated.{Decorated, erase, Inherits, Obeys, root_inherited}
use Rattle.grammar.specs.Evaluator.Rows.{Row, page, rows}
use Rattle.grammar.specs.Evaluator.Machine.{Tables, refused, accepted, evaluate}
use Rattle.grammar.specs.Evaluator.Premises.{Premises}

-- "at most 512 nodes and a stack need of at most 128"
pub record SmallTree (t : Tree) : Type 0 where
  pub few_nodes : size t ≤ MAX_ROWS
  pub small_need : need t ≤ MAX_STACK

module _ (b : Book) where
  -- "The root stands for rule 0's right symbol." "A list is the leaves of a tree if these, left to right, are its tokens, values included"
  pub record TreeOf (ks : List Token) (t : Tree) : Type 0 where
    pub stands : Stands b t (goal b.rules)
    pub its_leaves : leaves t ≡ ks

  -- d is t with "the values that the rules give on the finished tree"
  pub record Valued (t : Tree) (d : Decorated) : Type 0 where
    pub its_tree : erase d ≡ t
    pub its_root : Inherits (root_inherited b) d
    pub obeys : Obeys b d

  module _ (T : Tables) where
    pub record Demand3 (ks : List Token) : Type 0 where
      -- "the list is accepted exactly when it is the leaves of some parse tree that has at most 512 nodes and a stack need of at most 128"
      pub exactly : ((rs : List Row) × (evaluate b T ks ≡ accepted rs)) ↔ ((t : Tree) × TreeOf ks t × SmallTree t)
      -- "Then no other tree of any size has those leaves"
      pub one_tree : {rs : List Row} → evaluate b T ks ≡ accepted rs → (t u : Tree) → TreeOf ks t → TreeOf ks u → t ≡ u
      -- "The row count is the number of that tree's nodes"
      pub row_count : {rs : List Row} → evaluate b T ks ≡ accepted rs → (t : Tree) → TreeOf ks t → length rs ≡ size t
      -- "The rows are those nodes in postorder, each with its rule or terminal, its start and the values that the rules give on the finished tree"
      pub postorder : {rs : List Row} → evaluate b T ks ≡ accepted rs → (t : Tree) → TreeOf ks t → (d : Decorated) → Valued t d → rs ≡ rows b d 0
      -- "and every row word after them is 0"
      pub lent_words : {rs : List Row} → evaluate b T ks ≡ accepted rs → length (page rs) ≡ PAGE_WORDS
      pub zeros_after : {rs : List Row} → evaluate b T ks ≡ accepted rs
          → drop (ROW_WORDS * length rs) (page rs) ≡ replicate (PAGE_WORDS - ROW_WORDS * length rs) 0
      -- every tree has such values, and only these
      pub has_values : (t : Tree) → (d : Decorated) × Valued t d × ((e : Decorated) → Valued t e → e ≡ d)
      -- "The list is refused as no message (15) only if no tree of any size has those leaves"
      pub no_message : evaluate b T ks ≡ refused 15 → (t : Tree) → TreeOf ks t → ⊥

-- "For every book that is taken, whoever made its states, and every list of .. its tokens", of any length. The premises are what is used of a taken book
-- and of its tables.
abbrev pub Demand3Met : Type 0
Demand3Met = (b : Book) (T : Tables) → Premises b T → (ks : List Token) → TokensOf b ks → Demand3 b T ks
