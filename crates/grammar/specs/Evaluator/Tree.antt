-- Tokens and parse trees (01, "The stack evaluator", third paragraph): what a tree stands for, its leaves, its nodes, its need.
-- No state and no stack is used. Assumes nothing.
use Rattle.std.specs.Prelude.{ℕ, suc, ◌+◌, max, ◌<◌, ◌≤◌, ◌≡◌, ◌≢◌, List, [], ◌∷◌, ◌++◌, length}
use Rattle.grammar.specs.Data.Symbol.{Symbol, terminal, nonterminal, left_of, right_of}
use Rattle.grammar.specs.Data.Book.{Book}

pub record Token : Type 0 where
  pub kind : ℕ
  pub value : ℕ

-- "A parse tree is finite and made of rules and tokens alone": a leaf is a token, any other node has a rule and children, left to right
mutual
  pub data Tree : Type 0 where
    leaf : Token → Tree
    node : ℕ → Trees → Tree

  pub data Trees : Type 0 where
    nil : Trees
    cons : Tree → Trees → Trees

-- the tokens at the leaves, left to right
abbrev mutual
  pub leaves : Tree → List Token
  leaves (leaf k) = k ∷ []
  leaves (node P ts) = leaves_all ts

  pub leaves_all : Trees → List Token
  leaves_all nil = []
  leaves_all (cons t ts) = leaves t ++ leaves_all ts

-- the number of nodes, leaves among them
abbrev mutual
  pub size : Tree → ℕ
  size (leaf k) = 1
  size (node P ts) = suc (size_all ts)

  pub size_all : Trees → ℕ
  size_all nil = 0
  size_all (cons t ts) = size t + size_all ts

-- "Need of a leaf is 1; of any other node, the largest of 1 and (i - 1 + need of child i) over its children";
-- `need_from n ts` is the largest of n + need of the first of ts, n + 1 + need of the second, ..
abbrev mutual
  pub need : Tree → ℕ
  need (leaf k) = 1
  need (node P ts) = max 1 (need_from 0 ts)

  pub need_from : ℕ → Trees → ℕ
  need_from n nil = 0
  need_from n (cons t ts) = max (n + need t) (need_from (suc n) ts)

-- the kind of the next token; "after the last, t0"
abbrev pub next : List Token → ℕ
next [] = 0
next (k ∷ ks) = k.kind

module _ (b : Book) where
  -- "a token of the book (kind 1 to T, any value)"
  pub record TokenOf (k : Token) : Type 0 where
    pub not_end : 1 ≤ k.kind
    pub declared : k.kind ≤ b.terminals

  pub data TokensOf : List Token → Type 0 where
    no_tokens : TokensOf []
    and_tokens : {k : Token} {ks : List Token} → TokenOf k → TokensOf ks → TokensOf (k ∷ ks)

  -- a leaf "stands for its terminal. Any other node has a rule, stands for its left side, and has children that stand in order for the right symbols";
  -- "rule 0 has no node"
  mutual
    pub data Stands : Tree → Symbol → Type 0 where
      leaf_stands : {k : Token} {a : ℕ} → TokenOf k → k.kind ≡ a → Stands (leaf k) (terminal a)
      node_stands : {P B : ℕ} {ts : Trees} → P ≢ 0 → P < length b.rules → left_of b.rules P ≡ B → AllStand ts (right_of b.rules P)
          → Stands (node P ts) (nonterminal B)

    pub data AllStand : Trees → List Symbol → Type 0 where
      nil_stands : AllStand nil []
      cons_stands : {t : Tree} {X : Symbol} {ts : Trees} {β : List Symbol} → Stands t X → AllStand ts β → AllStand (cons t ts) (X ∷ β)
